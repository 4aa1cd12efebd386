pub mod Orders
pub mod Scanned
pub mod Answers
