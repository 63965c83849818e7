-- Groups of links with no point in common are answered as if each were alone.
pub mod Lists
pub mod Links
pub mod Walks
pub mod Contours
pub mod Seats
pub mod Shapes
pub mod Owners
pub mod Places
pub mod Boxes
