pub mod Rounds
pub mod Found
