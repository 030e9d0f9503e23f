pub mod Sums
pub mod Places
pub mod Kept
pub mod Sharing
pub mod Picks
pub mod Fitting
