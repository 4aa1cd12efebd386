pub mod Bounds
pub mod Columns
pub mod Kept
