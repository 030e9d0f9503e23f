mod Taking
mod Digits
mod Spelling
mod Decoding
mod TaskCodes
mod Refusals
mod PlacesRefused
mod Listing
