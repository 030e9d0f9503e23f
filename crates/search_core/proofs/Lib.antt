pub mod TaskLaws
pub mod Meaning
pub mod Events
pub mod Plain
pub mod Alone
pub mod Outcomes
