pub mod Reachable
pub mod Certificates
