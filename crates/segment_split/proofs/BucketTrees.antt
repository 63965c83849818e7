-- Trees of buckets: how wide buckets are, what trees hold, and what a segment meets in them.
pub mod Widths
pub mod Held
pub mod Met
pub mod Pairs
pub mod Steps
