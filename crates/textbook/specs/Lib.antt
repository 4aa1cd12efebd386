pub mod Textbook
pub mod Needs
