pub mod Laid
pub mod Pieces
pub mod Rows
pub mod Answers
