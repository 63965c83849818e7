-- Boxes of points as the code has them.
use Rattle.std.specs.Prelude.{ℤ}
use Rattle.segment_split.specs.Groups.{Bounds}
use Rattle.polygon_overlay.specs.declared.point_box.PointBox.{PointBox}

-- the box over whole numbers
abbrev pub bounds_of : {I : Type 0} → (I → ℤ) → PointBox I → Bounds
bounds_of value box = record { left = value box.left; right = value box.right; bottom = value box.bottom; top = value box.top }
