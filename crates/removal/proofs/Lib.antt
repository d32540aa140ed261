-- The laws that the functions' proofs cite.
pub mod MovedStretches
pub mod Expired
pub mod Expiring
pub mod Delisted
