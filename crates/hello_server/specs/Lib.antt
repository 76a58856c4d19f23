pub mod Calls
pub mod Serves
