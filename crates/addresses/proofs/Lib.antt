pub mod TableLemmas
pub mod DigitLemmas
pub mod StoredLemmas
