pub mod Fronts
pub mod Parts
pub mod Spelled
pub mod LineSteps
pub mod Answered
pub mod Written
