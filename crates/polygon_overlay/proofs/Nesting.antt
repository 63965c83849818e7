-- Shapes in shapes: passes of contours at one point, what winds on each side of them, and that no shape of an answer winds against the output.
pub mod SwingLaws
pub mod SectorLaws
pub mod CrossLaws
pub mod PassLaws
pub mod HandLaws
pub mod CountLaws
pub mod AloneLaws
pub mod StepLaws
pub mod LevelLaws
pub mod ShapePartLaws
pub mod NestLaws
pub mod ContainLaws
