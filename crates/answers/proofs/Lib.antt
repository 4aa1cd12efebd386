pub mod Doubles
pub mod Beside
pub mod Answers
