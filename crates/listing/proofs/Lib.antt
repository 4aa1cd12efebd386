pub mod Listing
pub mod Most
pub mod Answers
