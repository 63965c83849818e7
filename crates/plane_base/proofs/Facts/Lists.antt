-- Lists and sums over them.
pub mod Cycles
pub mod Rearrangements
pub mod Parts
pub mod Placed
pub mod Taken
pub mod Totals
pub mod Views
