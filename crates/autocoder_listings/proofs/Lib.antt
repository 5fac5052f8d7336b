pub mod CardLemmas
pub mod LineLemmas
pub mod ListingLemmas
pub mod ReadingLemmas
pub mod CodeLaw
mod WidthLaw
