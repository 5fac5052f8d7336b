pub mod Decks
pub mod Intake
pub mod Punching
pub mod Sources
