mod Numerals
mod Ends
mod Parts
mod Lines
mod Texts
pub mod Again
mod SameBoxes
mod SameGoods
mod InRange
mod Exhausted
