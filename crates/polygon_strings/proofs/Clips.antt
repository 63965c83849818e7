-- Paths of a clip, step by step.
pub mod Left
pub mod Nodes
pub mod Built
pub mod Paths
pub mod Links
pub mod Within
pub mod Begins
