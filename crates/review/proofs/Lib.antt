-- The laws that the functions' proofs cite.
pub mod StepExamples
pub mod Said
pub mod Marked
pub mod PlacedSeries
pub mod LastSeries
pub mod Reviewed
pub mod Lifts
pub mod StepTaken
pub mod HighestSeries
pub mod StepsCounted
pub mod Uncounting
pub mod ReviewedRuns
pub mod ReviewLaws
