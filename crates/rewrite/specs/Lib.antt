pub mod Rewriting
pub mod Needs
