pub mod Forms
pub mod Moved
pub mod Laws
