pub mod Slots
pub mod Symbols
pub mod Atoms
pub mod Patterns
