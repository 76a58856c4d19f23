pub mod DepartureLaws
pub mod TowerLaws
pub mod WritingLaws
