-- The definitions that the contracts cite.
pub mod ReviewSteps
pub mod Marks
pub mod StepStates
pub mod ReviewsAsked
