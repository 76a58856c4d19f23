pub mod Again
pub mod Alone
pub mod Apart
pub mod Asked
pub mod Behind
pub mod Cuts
pub mod Entries
pub mod Told
