pub mod Outcomes
pub mod Visits
pub mod Work
