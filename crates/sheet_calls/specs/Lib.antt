-- What call a line is, and what the calls of a sheet make of any words, or of a book while the sheet comes in pieces.
pub mod LineCalls
pub mod Lending
pub mod Sheets
pub mod Pieces
