-- The inside of a bucket tree.
pub mod Masks
pub mod FewestNodes
pub mod Nodes
pub mod Pool
pub mod Walk
