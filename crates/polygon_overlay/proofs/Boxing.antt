-- Boxes in which given points lie, and answers stay.
pub mod BoxLaws
pub mod EndLaws
pub mod StringBoxLaws
pub mod VectorBoxLaws
pub mod PointBoxLaws
