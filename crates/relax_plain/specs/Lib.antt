pub mod Marks
pub mod Potential
pub mod Reads
pub mod Spread
