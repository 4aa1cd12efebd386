pub mod ChartMarks
pub mod Needs
