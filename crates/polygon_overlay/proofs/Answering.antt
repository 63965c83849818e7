-- What queries answer, and why they are refused.
pub mod ArrangementLaws
pub mod QueryLaws
pub mod FlatLaws
pub mod SingleLaws
pub mod StraightSums
pub mod AreaLaws
pub mod GroupLaws
pub mod VectorLaws
