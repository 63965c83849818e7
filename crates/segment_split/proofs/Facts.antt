-- What speaks of no code, and may be cited by the crates above.
pub mod Adding
pub mod Groups
pub mod Marks
