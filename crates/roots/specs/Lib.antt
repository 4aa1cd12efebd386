pub mod Largest
pub mod Needs
