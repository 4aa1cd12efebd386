pub mod Peaks
pub mod Doubles
pub mod Ready
pub mod Order
pub mod Exact
pub mod Answers
mod Dry
