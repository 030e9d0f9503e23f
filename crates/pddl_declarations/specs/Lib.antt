pub mod Kinds
pub mod Sides
pub mod internal
