mod EqualityLaws
pub mod PathLaws
mod SolverLaws
mod WorkedExamples
pub mod Facts
