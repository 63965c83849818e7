-- Points and lines: their orders, turns, and places along a line.
pub mod OneLine
pub mod Orders
pub mod Turns
pub mod Along
pub mod AlongOrder
