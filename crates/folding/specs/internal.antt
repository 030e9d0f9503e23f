-- Internal: what only the contracts inside this crate speak of.
pub mod Changes
pub mod Sound
pub mod Parts
