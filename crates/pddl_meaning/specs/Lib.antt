pub mod Worlds
pub mod Values
pub mod Truth
pub mod Effects
pub mod Steps
pub mod Laws
pub mod internal
