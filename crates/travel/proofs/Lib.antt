pub mod Roots
pub mod Times
pub mod Limits
pub mod Segments
pub mod Spare
pub mod Answers
