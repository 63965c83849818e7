-- Points in contours: under edges, on edges, and by boxes.
pub mod LocationLaws
pub mod StretchLaws
pub mod OutlineLaws
pub mod NoneLaws
pub mod IndexLaws
pub mod BorderLaws
