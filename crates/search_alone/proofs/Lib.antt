pub mod Views
pub mod Answered
pub mod Rounds
