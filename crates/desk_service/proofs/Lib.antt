pub mod Once
pub mod Serving
pub mod Told
