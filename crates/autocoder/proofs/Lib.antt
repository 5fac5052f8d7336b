pub mod ProgramLemmas
pub mod ListingLemmas
pub mod LoadingLaw
