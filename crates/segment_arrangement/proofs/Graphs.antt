-- Links, nodes and filters.
pub mod EndOrder
pub mod EndNumbers
pub mod EndsAtNodes
pub mod NodeRuns
pub mod EndsByKind
pub mod NodeSteps
pub mod LinkStates
pub mod LinkCollection
pub mod Filters
pub mod Even
pub mod StringLinks
