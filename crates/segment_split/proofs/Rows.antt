-- Rows of y: each pair that can meet is seen in one of them.
pub mod Parts
pub mod Laws
pub mod Reaches
pub mod Found
pub mod Ahead
pub mod Counts
pub mod Meetings
pub mod Places
pub mod Extents
pub mod Bounds
pub mod Layouts
