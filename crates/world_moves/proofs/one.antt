pub mod Hearing
pub mod Names
pub mod Still
