pub mod Fits
pub mod Swaps
pub mod Answers
