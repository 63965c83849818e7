pub mod Rest
pub mod Errors
pub mod Calls
