-- Contours: their edges and corners, the way down from them, and their shapes.
pub mod Edges
pub mod Rays
pub mod Shapes
pub mod InPlace
