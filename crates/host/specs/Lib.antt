pub mod Interface
pub mod Flattened
pub mod Gathered
pub mod HostEdits
