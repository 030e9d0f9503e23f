pub mod Answers
pub mod Relaxations
