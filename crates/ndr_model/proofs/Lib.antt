pub mod Alike
pub mod Mets
pub mod Pieces
pub mod Sound
pub mod Stubs
