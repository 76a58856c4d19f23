pub mod FieldLaws
pub mod NamePuts
pub mod Puts
