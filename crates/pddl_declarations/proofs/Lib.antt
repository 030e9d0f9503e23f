pub mod Known
pub mod TypedSteps
pub mod Gathering
pub mod FunctionLemmas
