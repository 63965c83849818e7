-- Contours parted into loops.
pub mod Regions
pub mod Parts
pub mod Sorting
pub mod Order
pub mod Anchors
pub mod Places
pub mod Code
pub mod Kinds
pub mod Laws
