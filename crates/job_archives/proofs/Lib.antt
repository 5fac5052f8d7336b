pub mod ReadingLaw
pub mod NameReads
pub mod AskedLemmas
pub mod ListingLines
pub mod WordsRead
pub mod RecordLines
pub mod RecordLaw
pub mod Readable
mod BagLemmas
mod PageLemmas
mod RerunLemmas
mod CopyLemmas
mod ChosenRows
pub mod PartLemmas
mod JoinLemmas
