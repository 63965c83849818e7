-- Indexed sets, by a list and by a tree.
pub mod Laws
pub mod Lists
pub mod Searches
pub mod Held
pub mod Trees
pub mod Ways
pub mod Gains
pub mod Losses
