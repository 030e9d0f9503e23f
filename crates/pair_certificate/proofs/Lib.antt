pub mod Answered
pub mod OneReading
