pub mod Added
pub mod Through
pub mod Volumes
pub mod Answers
