-- Paths that are cut where they come back to a point.
pub mod Places
pub mod Steps
pub mod Points
pub mod Winds
