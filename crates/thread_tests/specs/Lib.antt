pub mod Samples
pub mod SampleLaws
pub mod Settling
pub mod Diaries
pub mod Rows
