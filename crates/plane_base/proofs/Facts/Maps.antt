-- Maps of counted edges: joining, balance and sums.
pub mod Balance
pub mod Given
pub mod Laying
pub mod LinearSums
pub mod Normal
