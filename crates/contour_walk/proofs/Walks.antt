-- Walks along a boundary: each link once, with the region on one hand.
pub mod Links
pub mod Steps
pub mod Paths
pub mod Nodes
pub mod Members
pub mod Least
pub mod Bends
pub mod Lowest
pub mod Anchors
