pub mod Firsts
pub mod Outlined
