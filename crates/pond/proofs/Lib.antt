pub mod Lines
pub mod Halves
pub mod Sums
pub mod Limits
pub mod Steps
pub mod Answers
