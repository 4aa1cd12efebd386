pub mod CurveNumbers
pub mod Needs
