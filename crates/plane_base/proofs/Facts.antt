-- What speaks of no code, and may be cited by the crates above.
pub mod Numbers
pub mod Lists
pub mod Flat
pub mod Points
pub mod Crossings
pub mod Columns
pub mod Maps
pub mod Windings
pub mod Thinning
