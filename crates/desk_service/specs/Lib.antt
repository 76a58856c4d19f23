pub mod Calls
pub mod Laws
pub mod Rundowns
pub mod Shows
pub mod Start
pub mod State
pub mod Views
