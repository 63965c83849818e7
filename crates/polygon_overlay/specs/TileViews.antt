-- What contracts see of the code's tiles.
use Rattle.std.specs.Prelude.{ℤ}
use Rattle.segment_split.specs.Groups.{Bounds}
use Rattle.polygon_overlay.specs.declared.tile.IntTile.{IntTile}

-- the box, by the values of its four coordinates
abbrev pub bounds_of : {I : Type 0} → (I → ℤ) → IntTile I → Bounds
bounds_of value tile = record { left = value tile.left; right = value tile.right; bottom = value tile.bottom; top = value tile.top }
