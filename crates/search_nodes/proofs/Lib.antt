pub mod Frontiers
pub mod Kept
pub mod Growing
pub mod Legal
