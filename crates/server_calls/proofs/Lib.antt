pub mod Cookies
pub mod Facts
pub mod Opening
pub mod ReadyLemmas
pub mod Refusals
pub mod Saying
pub mod Wires
