pub mod Laws
pub mod Through
