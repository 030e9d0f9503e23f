pub mod Onward
pub mod Unbounded
