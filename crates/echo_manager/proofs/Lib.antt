pub mod Anew
pub mod Owed
pub mod Placed
pub mod Said
pub mod Walks
