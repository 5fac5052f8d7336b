pub mod Cards
pub mod Decks
pub mod Escapes
pub mod Heads
pub mod Faults
pub mod Forms
pub mod Places
pub mod Reading
