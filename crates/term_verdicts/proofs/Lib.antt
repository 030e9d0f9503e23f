pub mod Chained
pub mod Filled
pub mod Decided
pub mod Layers
pub mod SeenTerms
