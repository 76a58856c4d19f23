pub mod Finishes
pub mod Requests
pub mod Scans
pub mod Servers
