pub mod Passed
pub mod Kept
pub mod Ready
pub mod Answers
