pub mod Leads
pub mod Legal
pub mod One
pub mod Rows
