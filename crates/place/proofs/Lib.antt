pub mod OpenClasses
-- The laws that the functions' proofs and other crates cite.
pub mod Blocks
pub mod Heads
pub mod KeyedWords
pub mod Laid
pub mod Rising
pub mod FoundNear
pub mod Found
pub mod LookedUp
