pub mod Bounds
pub mod Text
