-- Expiring keys: live lists, what searches find in them, and what insertions leave.
pub mod Expiry
pub mod Places
pub mod Insertion
pub mod Lists
pub mod Times
pub mod Answering
pub mod LiveParts
pub mod LiveGaps
pub mod Ways
pub mod Rows
pub mod RowKept
pub mod RowInsertion
pub mod KeyInsertion
pub mod Orders
pub mod Members
pub mod GreatestLess
