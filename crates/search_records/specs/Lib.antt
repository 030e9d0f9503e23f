pub mod Spaces
pub mod Claims
pub mod Complete
pub mod Nodes
pub mod Records
