pub mod Rising
pub mod Wholes
pub mod Answers
