-- Contours clamped into tiles: how they wind, what tiles answer, and how answers of tiles go together.
pub mod Steps
pub mod Contours
pub mod ThinnedSteps
pub mod Straight
pub mod Regions
pub mod Grids
pub mod Uniting
