pub mod Pigeons
pub mod Climbs
pub mod Jumps
