pub mod Figures
pub mod Routing
pub mod Needs
