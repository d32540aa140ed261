pub mod Terms
pub mod Grids
pub mod Ranges
pub mod Ends
pub mod Spacing
pub mod Judgement
