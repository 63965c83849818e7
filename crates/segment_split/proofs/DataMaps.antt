-- Maps with data: all entries of an edge are joined first, and those that count for nothing dropped last.
pub mod Counts
pub mod Drops
pub mod Forgets
pub mod Steps
pub mod Joins
pub mod Rests
pub mod Alike
