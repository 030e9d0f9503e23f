pub mod TaskLaws
pub mod Meaning
pub mod Plain
pub mod Sound
pub mod Complete
pub mod Lookups
