pub mod Tables
pub mod Parts
pub mod Growth
pub mod Right
pub mod Rooms
