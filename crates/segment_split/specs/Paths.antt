-- The path that an edge takes through its marks.
use Rattle.std.specs.Prelude.{List, [], ◌∷◌, ◌++◌}
use Rattle.plane_base.specs.Plane.{Point, Edge}
pub use Rattle.plane_base.specs.MarkOrder.{mark_order, with_mark, along}

-- from the edge's first end through its marks to its second
abbrev pub path : Edge → List Point → List Point
path s marks = s.a ∷ (along s marks ++ (s.b ∷ []))
