pub mod Lines
pub mod Peaks
pub mod Rules
pub mod Witness
