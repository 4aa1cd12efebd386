pub mod Setups
pub mod StudyNumbers
pub mod EditNumbers
pub mod MarkNumbers
pub mod InflowNumbers
