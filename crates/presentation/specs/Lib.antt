pub mod Serving
pub mod Offers
pub mod Laws
