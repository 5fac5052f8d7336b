pub mod AnsweringLines
pub mod AnsweringLemmas
pub mod ApplyingLemmas
pub mod RunningLemmas
