pub mod CardMarks
pub mod CardNumbers
pub mod CardsShown
pub mod CharactersShown
pub mod ManifestFields
pub mod NumberLaw
pub mod SameDecks
