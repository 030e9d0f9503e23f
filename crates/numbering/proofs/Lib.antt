pub mod Lists
mod Names
pub mod Ranks
mod Numbered
mod InOrder
mod Groups
mod Spreading
mod Reaching
