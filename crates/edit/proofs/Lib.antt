-- The laws that the functions' proofs cite.
pub mod Moves
pub mod EditedRuns
pub mod Edits
