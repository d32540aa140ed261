-- The definitions that the contracts cite.
pub mod Expiry
pub mod Removal
pub mod RemovalsAsked
