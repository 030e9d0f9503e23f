-- Internal: what only the contracts inside this crate speak of.
pub mod Relations
pub mod Joints
pub mod Unset
