-- Tiles that cover a box and share no point, and grids of them.
use Rattle.std.specs.Prelude.{◌≡◌, ℤ, ◌≤ℤ◌, ◌&&◌, true, false, List, [], ◌∷◌, ◌++◌, map, All, AllPairs, Any}
use Rattle.plane_base.specs.Plane.{RationalPoint, IsRational}
use Rattle.segment_split.specs.Groups.{Bounds}
use Rattle.polygon_overlay.specs.Tiles.{in_tile, IsTile}

-- Tiles that overlap nowhere and cover a box: each rational point of it lies in one of them, and in no second one.
pub record AreTilesOf (box : Bounds) (tiles : List Bounds) : Type 0 where
  pub each : All IsTile tiles
  pub apart : AllPairs (λ s t. (p : RationalPoint) → in_tile s p && in_tile t p ≡ false) tiles
  pub cover : (p : RationalPoint) → IsRational p → in_tile box p ≡ true → Any (λ t. in_tile t p ≡ true) tiles

-- ---- grids

-- a column of a grid: where it ends, and the tops of its tiles from below
pub record Column : Type 0 where
  pub right : ℤ
  pub tops : List ℤ

-- the tiles of a column, each from the top of the one before
abbrev pub rows_of : ℤ → ℤ → ℤ → List ℤ → List Bounds
rows_of left right bottom [] = []
rows_of left right bottom (top ∷ tops) = record { left = left; right = right; bottom = bottom; top = top } ∷ rows_of left right top tops

-- columns side by side, each from the right of the one before
abbrev pub grid_of : ℤ → ℤ → List Column → List Bounds
grid_of left bottom [] = []
grid_of left bottom (c ∷ cs) = rows_of left c.right bottom c.tops ++ grid_of c.right bottom cs

-- the numbers never fall, from a first one up to a last one
abbrev pub Rise : ℤ → List ℤ → ℤ → Type 0
Rise first [] last = first ≡ last
Rise first (x ∷ xs) last = (first ≤ℤ x) × Rise x xs last

-- The columns reach from the left of the box to its right, and the tiles of each from its bottom to its top.
pub record IsGrid (box : Bounds) (columns : List Column) : Type 0 where
  pub across : Rise box.left (map (λ c. c.right) columns) box.right
  pub up : All (λ c. Rise box.bottom c.tops box.top) columns
