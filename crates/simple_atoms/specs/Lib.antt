pub mod Forms
pub mod Ranged
pub mod Repetitions
pub mod Values
