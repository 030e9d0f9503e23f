-- Internal: what only the contracts inside this crate speak of.
pub mod Checks
pub mod Levels
pub mod Candidates
