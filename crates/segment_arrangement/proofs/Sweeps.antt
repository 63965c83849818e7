-- The sweep from start to start.
pub mod Queries
pub mod Seams
pub mod Steps
pub mod Fans
pub mod Calls
