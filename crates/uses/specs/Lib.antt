pub mod Bits
pub mod Blocks
pub mod Boxes
pub mod Owning
pub mod Rules
pub mod Stores
