-- The laws that the functions' proofs cite.
pub mod Beside
pub mod StrikeWords
pub mod Settings
pub mod Standing
pub mod Judgements
pub mod ListedStrikes
pub mod Permitting
