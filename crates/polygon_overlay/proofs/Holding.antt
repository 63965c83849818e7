-- What builders hold, and how it grows.
pub mod HeldLaws
pub mod HoldingLaws
pub mod BuilderLaws
pub mod GivenOrderLaws
pub mod GivenWindingLaws
pub mod LoadLaws
pub mod TallyLaws
pub mod BalanceTally
pub mod EdgeLaws
pub mod AddingLaws
