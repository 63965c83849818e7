-- The inside of a red-black tree, which no contract of a public call cites.
pub mod Shape
pub mod Pool
pub mod Insertion
pub mod Removal
pub mod Addition
pub mod Rises
pub mod Entries
pub mod Kept
pub mod Search
pub mod Order
pub mod SetView
pub mod SetSearch
