-- The sweep that binds holes to outlines.
pub mod Assembly
pub mod Steps
pub mod Edges
pub mod Sweeps
pub mod Laws
pub mod Given
pub mod Joining
pub mod InsideOut
pub mod Children
pub mod OnceBound
pub mod ChildOnce
