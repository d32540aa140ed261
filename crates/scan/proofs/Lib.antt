-- The laws that the functions' proofs cite.
pub mod ExpirationWords
pub mod NextStrikes
pub mod Series
pub mod ExpirationLoop
pub mod FiguresFirst
pub mod Classes
pub mod Zeros
pub mod ZeroWords
pub mod CountedZeros
pub mod BookParts
pub mod FreshBooks
pub mod OtherBits
pub mod Others
