-- The fan of one start: its order, and the sums handed up it.
pub mod Order
pub mod Handlers
pub mod Sides
pub mod Lists
pub mod Sorting
pub mod Handing
pub mod Fills
pub mod Strings
