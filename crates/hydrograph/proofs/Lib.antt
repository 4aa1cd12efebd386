pub mod Lines
pub mod Weights
pub mod Pens
pub mod Hands
pub mod Released
pub mod Room
pub mod Timing
pub mod Answers
