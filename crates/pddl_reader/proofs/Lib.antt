pub mod DomainParts
pub mod ProblemParts
pub mod There
pub mod Causes
