pub mod Signs
pub mod Changed
pub mod Swaps
pub mod Answers
