pub mod Atoms
pub mod Codes
pub mod Fixed
pub mod Literals
pub mod Bindings
pub mod internal
