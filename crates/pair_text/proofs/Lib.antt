pub mod Answered
pub mod OneReason
