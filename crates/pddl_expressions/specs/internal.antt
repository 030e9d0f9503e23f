-- What the contracts of single functions cite, and nothing that is said of texts.
pub mod Gathered
pub mod CutSteps
pub mod Fine
pub mod Connectives
