pub mod Decoding
pub mod SameNumbers
