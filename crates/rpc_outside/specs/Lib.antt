pub mod Dials
pub mod Doors
pub mod LinkLists
pub mod Links
pub mod ScriptDials
pub mod ScriptDoors
pub mod ScriptLinks
pub mod Scripts
