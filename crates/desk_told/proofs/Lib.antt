pub mod DeedLemmas
pub mod PassLemmas
