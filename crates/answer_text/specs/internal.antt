-- What the contracts of this crate's private functions speak of. No public contract cites it.
pub mod Held
pub mod Listed
