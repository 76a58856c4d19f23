pub mod Desks
pub mod Doors
pub mod Endings
pub mod Groups
pub mod Lists
pub mod Servings
pub mod Takes
