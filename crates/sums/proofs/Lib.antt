pub mod Hands
pub mod Eights
pub mod Deepening
pub mod Window
pub mod Block
pub mod Far
pub mod Answers
