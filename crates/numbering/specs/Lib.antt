pub mod Named
pub mod Reached
pub mod Numbers
pub mod internal
