pub mod Met
pub mod Numbered
pub mod ProbeSteps
pub mod Steps
pub mod Table
pub mod Views
