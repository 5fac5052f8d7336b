mod AnswerLemmas
pub mod StandingLemmas
mod TurnLemmas
mod EndLemmas
mod ChangeLemmas
mod LimitLemmas
mod ResponseLemmas
