pub mod Work
pub mod Same
pub mod Answers
