-- What the reference programs cite.
pub mod Thinned
pub mod Joined
pub mod Windings
pub mod ConvexPlaces
pub mod ConvexSides
pub mod Marks
pub mod Walks
pub mod Shapes
