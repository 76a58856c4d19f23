pub mod Chains
pub mod Laws
pub mod Ready
pub mod Said
pub mod Suited
