pub mod Subareas
pub mod Answers
