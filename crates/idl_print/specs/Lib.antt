pub mod Canonical
pub mod Layout
pub mod Pages
pub mod Prints
