pub mod Alikes
mod Indexes
pub mod Octets
pub mod Walks
