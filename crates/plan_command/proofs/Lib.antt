pub mod Names
pub mod Printed
pub mod Found
pub mod Ends
