pub mod ClosingLemmas
pub mod OpeningFinds
pub mod OpeningLeftovers
pub mod MigratingLemmas
pub mod RoundLemmas
pub mod LeavingLemmas
pub mod MakingLemmas
