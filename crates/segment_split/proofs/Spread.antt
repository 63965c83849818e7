-- Late passes lower the spread.
pub mod Lists
pub mod Sums
pub mod Falls
pub mod Staircases
pub mod StaircaseMarks
pub mod StaircaseMembers
