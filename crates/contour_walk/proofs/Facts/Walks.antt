-- Turning round a point, and how contours that pass all links wind.
pub mod Back
pub mod Laws
pub mod Winds
pub mod Turns
pub mod Rings
pub mod Fans
