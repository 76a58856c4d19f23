pub mod Laws
pub mod WrittenLaws
