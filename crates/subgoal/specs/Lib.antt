pub mod Equations
pub mod Estimates
pub mod Help
pub mod Leaves
pub mod Network
pub mod Repeats
pub mod Unmet
