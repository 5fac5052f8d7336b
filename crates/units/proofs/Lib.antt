pub mod AreaLemmas
pub mod OperationLemmas
pub mod ListingBlanks
pub mod ListingLines
pub mod ListingPieces
pub mod OperationOutcomes
pub mod InRange
pub mod ListingGlyphs
