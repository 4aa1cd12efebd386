pub mod Covers
pub mod Table
pub mod Limits
pub mod Patches
pub mod Mean
pub mod Answers
