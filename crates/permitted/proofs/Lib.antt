pub mod StandingStrikes
pub mod Listed
pub mod Trying
pub mod RungByRung
pub mod BothRanges
