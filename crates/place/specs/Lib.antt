pub mod Search
pub mod Lookups
