pub mod Parts
pub mod Spelling
pub mod Certificates
pub mod internal
