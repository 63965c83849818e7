pub mod MapViews
pub mod ConvexSides
pub mod MarkViews
