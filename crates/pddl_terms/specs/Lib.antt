pub mod Heights
pub mod Limits
pub mod Readable
pub mod Texts
