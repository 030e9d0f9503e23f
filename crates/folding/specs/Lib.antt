pub mod Folding
pub mod internal
