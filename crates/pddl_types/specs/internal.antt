-- Internal: what only the contracts inside this crate speak of.
pub mod Notes
pub mod Tables
