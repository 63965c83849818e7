-- Which outline a hole stands in.
pub mod Owned
pub mod Passed
pub mod Ranks
pub mod Owners
pub mod Answers
pub mod Walks
pub mod Highest
