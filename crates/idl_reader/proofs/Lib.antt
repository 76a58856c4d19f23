pub mod Causes
pub mod Ends
pub mod Loops
pub mod Orders
pub mod Top
pub mod TypesLoops
pub mod TypesOrders
