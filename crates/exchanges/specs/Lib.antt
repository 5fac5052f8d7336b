pub mod Messages
pub mod Answers
pub mod Exchanges
pub mod Steps
pub mod Running
pub mod Ending
pub mod Work
