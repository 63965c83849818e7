-- How two segments meet, and the marks that they lay on each other.
pub mod Rows
pub mod Tests
pub mod Steps
pub mod Place
pub mod Marks
pub mod MarkLaws
pub mod Parted
pub mod Beside
pub mod Onward
pub mod Roundings
pub mod Table
pub mod Staircases
pub mod Whole
pub mod Squares
pub mod Pieces
pub mod MarkCases
pub mod Examples
