-- The laws of the lines and of what is printed, for the functions' proofs and other crates.
pub mod Complete
pub mod Sound
pub mod LineParts
pub mod SheetLines
mod WholeLines
pub mod Decimals
mod SpacedNumbers
pub mod AnswerTexts
pub mod RoundTrip
pub mod Bounds
