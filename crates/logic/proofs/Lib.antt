-- The laws that other crates cite.
pub mod Tests
pub mod Lists
pub mod Parts
pub mod Splits
pub mod Slices
pub mod Firsts
pub mod Walks
pub mod Multiples
pub mod Numbers
pub mod Stores
pub mod Results
