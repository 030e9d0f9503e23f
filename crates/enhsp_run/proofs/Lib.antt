pub mod Accepted
pub mod Answered
pub mod Certified
pub mod Endings
pub mod Known
pub mod Laws
pub mod Searched
pub mod Sizes
