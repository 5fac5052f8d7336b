pub mod Statements
pub mod Texts
pub mod Storage
pub mod Sources
