-- Bucket trees: masks of ranges, layouts, and one pool of insertions.
pub mod Masks
pub mod Levels
pub mod MaskLoops
pub mod Shares
pub mod Layouts
pub mod Filters
pub mod PoolNames
pub mod Pools
pub mod Purges
pub mod Walks
pub mod PoolWalks
pub mod Bags
pub mod Tallies
pub mod Fewest
