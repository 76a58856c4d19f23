pub mod CallLemmas
pub mod FindLemmas
pub mod OpenLemmas
pub mod RetireLemmas
pub mod StartLemmas
pub mod TellLemmas
