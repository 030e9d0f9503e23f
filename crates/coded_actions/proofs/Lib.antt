pub mod Equations
pub mod Inductions
