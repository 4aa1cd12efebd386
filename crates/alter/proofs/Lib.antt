pub mod OnlyFresh
pub mod Places
pub mod Swapping
pub mod Blocks
pub mod Ground
pub mod Ready
pub mod Answers
