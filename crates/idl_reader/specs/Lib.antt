pub mod Along
pub mod Causes
pub mod TypesAlong
