pub mod SwitchLetters
pub mod SendingLemmas
