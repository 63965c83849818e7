-- Passes one after another: how they end, what they keep, and when they are refused.
pub mod Iterates
pub mod Ends
pub mod Counts
pub mod Changes
pub mod Loops
pub mod Neighbours
pub mod Runs
pub mod Cutting
pub mod Refusals
pub mod Looks
pub mod Lengths
pub mod Sums
pub mod Redraws
pub mod Passing
pub mod FirstPass
pub mod KeysRedrawn
