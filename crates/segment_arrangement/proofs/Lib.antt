mod WorkedExamples
pub mod Facts
mod Fans
mod Sweeps
mod Graphs
mod AlikeRules
mod DepthLaws
mod RectilinearSides
