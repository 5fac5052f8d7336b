pub mod PieceLemmas
pub mod RunningLemmas
