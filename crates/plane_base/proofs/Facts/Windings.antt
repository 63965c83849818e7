-- Windings, areas and convex contours.
pub mod AreaRoom
pub mod Areas
pub mod ConvexAnswers
pub mod ConvexEdges
pub mod Convex
pub mod Paths
pub mod PathSums
pub mod Sums
