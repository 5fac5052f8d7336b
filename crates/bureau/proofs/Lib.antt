pub mod AnswerLemmas
pub mod WorkLemmas
