pub mod CutPlaces
pub mod Rises
pub mod Suited
