pub mod Boxes
pub mod Hold
pub mod Demands
pub mod Caps
pub mod Least
