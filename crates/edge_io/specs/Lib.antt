pub mod Causes
pub mod Folder
pub mod Memory
pub mod ReadFaults
pub mod Reading
pub mod Real
