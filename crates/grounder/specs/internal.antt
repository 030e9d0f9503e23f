-- Internal: what only the contracts inside this crate speak of.
pub mod Taken
pub mod Decoded
pub mod Made
