-- One pass: the marks on each edge, the paths through them, and which pairs need no look.
pub mod Paths
pub mod Laws
pub mod Unmarked
pub mod OldPairs
pub mod Steps
pub mod Common
pub mod Last
pub mod Parts
pub mod Merges
pub mod MarkLists
pub mod Places
pub mod Skips
pub mod PairCounts
pub mod Columns
pub mod Taken
pub mod SeenPasses
