-- Where all crossings are whole, windings are kept, and redrawing has a closed form.
pub mod Marks
pub mod Pieces
pub mod Windings
pub mod Redrawing
pub mod CutPoints
pub mod Neighbours
pub mod RectilinearEdges
pub mod Coordinates
pub mod StepLists
pub mod Inside
pub mod SumsAlong
pub mod Refined
pub mod InTurn
