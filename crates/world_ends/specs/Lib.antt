pub mod Callers
pub mod Servings
