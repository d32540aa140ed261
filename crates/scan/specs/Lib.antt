pub mod NextStrikes
pub mod Ahead
pub mod Stretches
