pub mod Histories
pub mod Texts
