pub mod Widening
pub mod Pairs
pub mod Entering
pub mod Steps
pub mod OnePlain
