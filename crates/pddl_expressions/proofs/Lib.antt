pub mod Arguments
pub mod Comparing
pub mod Connecting
pub mod Grouping
pub mod Listed
pub mod Low
pub mod Soundness
pub mod Tails
