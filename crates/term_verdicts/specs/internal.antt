-- Internal: what only the contracts inside this crate speak of.
pub mod Bound
pub mod Truths
