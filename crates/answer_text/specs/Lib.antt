pub mod Texts
pub mod Readings
pub mod Sending
pub mod internal
