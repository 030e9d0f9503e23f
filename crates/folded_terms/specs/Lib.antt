pub mod Faults
pub mod Operands
pub mod Settled
pub mod Goals
pub mod internal
