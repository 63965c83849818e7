pub mod Keys
pub mod Lives
pub mod Ranges
pub mod Sets
pub mod Trees
