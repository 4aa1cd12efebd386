pub mod FiguresToCheck
pub mod Peaks
pub mod Rules
pub mod Witness
