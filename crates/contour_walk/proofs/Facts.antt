-- What speaks of no code, and may be cited by the crates above.
pub mod Walks
pub mod Contours
pub mod Binding
