pub mod Crossing
pub mod Ends
pub mod Having
pub mod Serving
