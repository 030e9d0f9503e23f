pub mod Answered
pub mod Joining
pub mod Spelling
pub mod ReadFluents
pub mod SeenTerms
pub mod TopMembers
