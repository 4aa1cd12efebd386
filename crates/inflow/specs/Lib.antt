pub mod Inflow
pub mod Needs
