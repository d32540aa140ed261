-- What a sheet's line is, how it is read, and what is printed.
pub mod Alphabet
pub mod Reading
pub mod Grammar
pub mod Printing
pub mod SheetLines
pub mod WholeLines
