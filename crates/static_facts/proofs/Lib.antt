pub mod Coding
pub mod Named
pub mod Keyed
pub mod ChangedNames
pub mod Stored
pub mod Conjuncts
