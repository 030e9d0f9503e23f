-- What the contracts of single functions cite, and nothing that is said of texts.
pub mod Typing
pub mod FunctionSteps
