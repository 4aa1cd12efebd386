pub mod InflowRows
pub mod Needs
