pub mod Combinators
pub mod Files
pub mod Grammar
pub mod Idl
pub mod Pieces
pub mod Trees
