mod Conflicts
mod ReadyAtoms
mod Looked
pub mod Members
mod ReadyPatterns
mod FactCodes
mod Spelling
mod FirstUnset
