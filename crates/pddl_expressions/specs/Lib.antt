pub mod Cut
pub mod internal
