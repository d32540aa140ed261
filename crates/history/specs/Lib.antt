pub mod Turns
pub mod Records
pub mod ExecutedLists
pub mod Comparisons
