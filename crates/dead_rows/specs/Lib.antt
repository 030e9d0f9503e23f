pub mod Entries
pub mod Shapes
pub mod Seats
pub mod Knowledge
pub mod Looks
pub mod Readings
