pub mod Hashed
pub mod Numbered
