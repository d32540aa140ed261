-- The laws of lines as calls and of a sheet that is read, for the functions' proofs and the program.
pub mod Limited
pub mod Lines
mod CallsRead
mod Lending
mod Sheets
mod LineReplies
pub mod Readers
pub mod Pieces
mod SheetExamples
