pub mod Compared
pub mod Agreeing
