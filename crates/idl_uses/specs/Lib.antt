pub mod Facts
pub mod Offers
