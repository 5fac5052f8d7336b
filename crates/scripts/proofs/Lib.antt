pub mod WordLemmas
pub mod TextLemmas
pub mod MeaningLemmas
pub mod DeckLemmas
pub mod ParsingLemmas
pub mod SendingLemmas
