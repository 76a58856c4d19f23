pub mod Attributes
pub mod Declarators
pub mod Members
pub mod Symbols
pub mod Walk
