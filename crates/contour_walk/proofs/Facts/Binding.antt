-- Anchors of contours, and ways down from them.
pub mod Lists
pub mod Orders
pub mod Edges
pub mod Anchors
pub mod Descents
pub mod Regions
pub mod Chains
