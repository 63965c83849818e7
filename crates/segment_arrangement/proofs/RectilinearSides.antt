-- The sides of edges that are all horizontal or vertical.
pub mod Order
pub mod Rows
pub mod Heights
pub mod Pairs
pub mod Verticals
pub mod Halves
pub mod Members
pub mod Costs
