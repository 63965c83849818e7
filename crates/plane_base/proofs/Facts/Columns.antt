-- Segments over one column: their order and their levels.
pub mod Comparison
pub mod Order
pub mod Parted
pub mod Levels
pub mod Sides
pub mod Verticals
