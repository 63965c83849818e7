-- Points passed straight, and what stays without them.
pub mod Laws
pub mod Corners
pub mod Thin
pub mod Cycles
