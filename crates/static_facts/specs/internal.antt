-- Internal: what only the contracts inside this crate speak of.
pub mod Keys
pub mod Stored
