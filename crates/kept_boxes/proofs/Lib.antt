pub mod Lies
pub mod Groups
