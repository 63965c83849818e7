mod Members
mod ColumnKeys
mod Sweeps
mod Uppermost
