pub mod Edit
pub mod Standing
pub mod Needs
