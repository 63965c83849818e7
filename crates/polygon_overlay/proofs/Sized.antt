-- Sizing: what moved contours of an answer wind round, in rows and in columns.
pub mod Terms
pub mod Windows
pub mod Denominators
pub mod Moves
pub mod Places
pub mod Across
pub mod Up
pub mod Once
pub mod Answers
pub mod Flat
pub mod Laws
pub mod InTurn
pub mod Walking
pub mod Room
pub mod Kept
pub mod Calls
