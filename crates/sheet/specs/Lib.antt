-- What the sheet program leaves.
pub mod InputRead
