pub mod Types
pub mod internal
