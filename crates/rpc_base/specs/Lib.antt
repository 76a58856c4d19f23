pub mod Causes
pub mod Fields
pub mod Named
pub mod Shelves
