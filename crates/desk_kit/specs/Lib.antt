pub mod Laws
pub mod MessageParts
pub mod ResponseParts
pub mod Rows
pub mod TableParts
pub mod Typed
