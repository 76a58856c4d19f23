pub mod Cuts
pub mod Fragments
pub mod Pieces
pub mod Runs
