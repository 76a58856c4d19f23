pub mod JoinLemmas
pub mod PassLemmas
