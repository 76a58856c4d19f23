pub mod Deeds
pub mod Desks
pub mod Histories
pub mod Laws
pub mod Passes
