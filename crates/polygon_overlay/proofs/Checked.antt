-- Checks of masks: what is shrunk and grown again, or grown and shrunk again, by squares.
pub mod Places
pub mod Cells
pub mod Windows
pub mod Squares
pub mod Room
pub mod Masks
pub mod Answers
pub mod Calls
