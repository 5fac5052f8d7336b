pub mod Decks
pub mod Faults
pub mod Files
pub mod Numbers
