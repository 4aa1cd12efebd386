pub mod Study
pub mod Needs
