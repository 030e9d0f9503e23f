pub mod Rows
pub mod Protocol
pub mod Fitting
pub mod Sweeps
pub mod Turns
pub mod Seats
pub mod Tables
pub mod Distance
