pub mod Bisect
pub mod Powers
pub mod Answers
