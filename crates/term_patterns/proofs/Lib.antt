pub mod Layers
pub mod Bindings
pub mod SeenTerms
