-- What the contracts of single functions cite, and nothing that is said of texts.
pub mod EffectSteps
pub mod ClauseSteps
pub mod ActionLists
