pub mod Differing
pub mod EnginesAgree
pub mod Answers
