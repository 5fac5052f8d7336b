pub mod PartLemmas
pub mod StoredLemmas
pub mod CodeLemmas
pub mod WholeLemmas
