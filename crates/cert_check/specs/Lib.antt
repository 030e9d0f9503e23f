pub mod Sets
pub mod Checks
