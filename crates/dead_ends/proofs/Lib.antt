pub mod NoPlan
pub mod Proved
