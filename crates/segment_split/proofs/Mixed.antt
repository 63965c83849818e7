-- The first pass over maps with a few slanted edges.
pub mod Bound
pub mod Cuts
pub mod Looks
pub mod Marked
pub mod Passing
pub mod Pieces
pub mod Refused
pub mod Told
pub mod Searched
pub mod Turns
