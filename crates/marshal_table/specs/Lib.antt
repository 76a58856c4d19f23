pub mod Bodies
pub mod Interfaces
pub mod Laws
pub mod Shapes
pub mod Stands
pub mod Suits
pub mod Wholes
