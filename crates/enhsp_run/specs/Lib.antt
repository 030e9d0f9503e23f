pub mod Told
pub mod Searches
pub mod Certificates
pub mod Commands
pub mod Answers
pub mod Ends
pub mod Outcomes
