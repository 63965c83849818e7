mod ExtractionLaws
mod AnswerPointLaws
mod Lives
pub mod Facts
pub mod Walks
pub mod Straight
pub mod Binding
pub mod RoundNodes
mod Binder
mod Linear
mod LaidFlat
mod LaidShapes
mod Cutting
mod Parting
mod Groups
mod LeastAreas
mod Reaching
mod PartedAnswers
mod AnswerWindLaws
mod OrderlyLaws
mod VectorLinks
mod VectorAnswers
mod VectorEnds
mod Simplifying
