pub mod Records
pub mod Needs
