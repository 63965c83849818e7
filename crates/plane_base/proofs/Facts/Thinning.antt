-- Which points thinning removes.
pub mod Rows
pub mod Ends
pub mod Forks
pub mod Indexes
pub mod Laws
pub mod Steps
