-- What the contracts of single functions cite, and nothing that is said of texts.
pub mod DomainParts
pub mod ProblemParts
pub mod EntrySteps
