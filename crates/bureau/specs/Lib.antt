pub mod Answers
pub mod Migrating
pub mod Outcomes
pub mod Work
