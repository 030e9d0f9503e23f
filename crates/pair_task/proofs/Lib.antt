pub mod Answered
pub mod EachAnswered
pub mod OneAnswer
pub mod Tasks
