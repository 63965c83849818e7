-- Walks along halves: each half once, and on from each by that which is met first.
pub mod Rounds
pub mod Following
pub mod Flags
pub mod Nodes
pub mod Told
pub mod Apart
pub mod Binding
pub mod Within
pub mod Nearest
pub mod Walks
pub mod Turns
pub mod Parting
pub mod Graphs
pub mod Calls
pub mod Returns
pub mod Outlines
pub mod Winding
