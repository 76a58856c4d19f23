pub mod Among
pub mod Courses
pub mod Laws
pub mod Open
