pub mod AnswerLaws
pub mod Done
pub mod Lasting
pub mod Laws
pub mod PassLaws
pub mod Quiet
pub mod Reasons
pub mod Steps
