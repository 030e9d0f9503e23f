pub mod Growing
pub mod Reading
pub mod Drawing
pub mod Steps
