pub mod Altering
pub mod Needs
