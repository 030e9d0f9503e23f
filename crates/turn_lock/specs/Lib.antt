pub mod History
pub mod Words
pub mod Badges
pub mod Seats
pub mod Locks
pub mod Lending
pub mod Turns
