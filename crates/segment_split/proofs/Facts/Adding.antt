pub mod Laws
pub mod Paths
pub mod Sources
pub mod Held
pub mod Holdings
pub mod PathHoldings
