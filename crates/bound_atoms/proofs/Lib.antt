pub mod Placing
pub mod Objects
pub mod Arguments
pub mod Initial
pub mod Undeclared
pub mod Laws
pub mod Numbered
pub mod Seen
