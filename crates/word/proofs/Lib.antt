-- The laws that the functions' proofs and other crates cite.
pub mod RangeTests
pub mod Fields
pub mod Digits
pub mod Words
pub mod RawWords
pub mod FigureWords
pub mod Counts
pub mod Refusals
pub mod EachProgram
pub mod StrikeOrder
pub mod Counters
