pub mod Site
pub mod Order
pub mod Needs
