pub mod Again
pub mod Joins
pub mod Layered
pub mod Printed
pub mod Printing
pub mod Same
