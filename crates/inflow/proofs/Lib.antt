pub mod Inflows
pub mod Answers
