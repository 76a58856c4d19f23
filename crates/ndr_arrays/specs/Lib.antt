pub mod Bind
pub mod Counted
pub mod Texts
pub mod Written
