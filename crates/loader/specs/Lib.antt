pub mod Glyphs
pub mod Stretches
pub mod Cards
pub mod Decks
pub mod Loading
