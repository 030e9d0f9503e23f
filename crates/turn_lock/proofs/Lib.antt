pub mod Seats
pub mod Histories
pub mod Marks
pub mod TurnSteps
pub mod SeatSteps
pub mod Rows
pub mod Endings
