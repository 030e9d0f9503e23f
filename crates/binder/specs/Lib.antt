pub mod Bound
pub mod Tables
pub mod internal
