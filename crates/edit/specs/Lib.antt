-- The definitions that the contracts cite.
pub mod Insertion
pub mod EditsAsked
