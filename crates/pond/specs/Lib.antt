pub mod PondRows
pub mod Needs
