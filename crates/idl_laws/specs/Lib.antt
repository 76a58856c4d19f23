pub mod AsWritten
pub mod Laws
pub mod Printed
