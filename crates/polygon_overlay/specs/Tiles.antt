-- Tiles: boxes between whole coordinates, into which contours are clamped.
use Rattle.std.specs.Prelude.{◌≡◌, ℤ, pos, ◌*ℤ◌, ◌≤ℤ◌, Bool, true, cond, ◌&&◌, int_lt, int_le, List, [], ◌∷◌, map, All}
use Rattle.plane_base.specs.Plane.{Point, Edge, RationalPoint}
use Rattle.plane_base.specs.Windings.{contour_winding}
use Rattle.segment_split.specs.Groups.{Bounds, LiesWithin}
use Rattle.segment_split.specs.LineLaws.{is_rectilinear, AllRectilinear}
use Rattle.contour_walk.specs.WalkLaws.{contour_steps}

-- The columns from the left of a tile on, its right left out, and the rows up to its top, its bottom left out: as edges pass below points.
abbrev pub in_tile : Bounds → RationalPoint → Bool
in_tile tile p =
    (int_le (pos p.q *ℤ tile.left) p.x && int_lt p.x (pos p.q *ℤ tile.right))
    && (int_lt (pos p.q *ℤ tile.bottom) p.y && int_le p.y (pos p.q *ℤ tile.top))

-- No side of the tile lies beyond the other. It may be empty.
pub record IsTile (tile : Bounds) : Type 0 where
  pub across : tile.left ≤ℤ tile.right
  pub up : tile.bottom ≤ℤ tile.top

-- ---- clamping

-- the number from the least to the greatest that is nearest to v
abbrev pub clamped_number : ℤ → ℤ → ℤ → ℤ
clamped_number least greatest v = cond (int_lt v least) least (cond (int_lt greatest v) greatest v)

-- the point of the tile that is nearest to p, in x and in y
abbrev pub clamped_point : Bounds → Point → Point
clamped_point tile p = record { x = clamped_number tile.left tile.right p.x; y = clamped_number tile.bottom tile.top p.y }

abbrev pub clamped : Bounds → List Point → List Point
clamped tile contour = map (clamped_point tile) contour

-- ---- steps

-- A step that is horizontal or vertical, or lies in the tile, or beyond one of its four lines.
pub data KeepsTo (tile : Bounds) (s : Edge) : Type 0 where
  straight : is_rectilinear s ≡ true → KeepsTo tile s
  within : LiesWithin tile s.a → LiesWithin tile s.b → KeepsTo tile s
  left_of : s.a.x ≤ℤ tile.left → s.b.x ≤ℤ tile.left → KeepsTo tile s
  right_of : tile.right ≤ℤ s.a.x → tile.right ≤ℤ s.b.x → KeepsTo tile s
  under : s.a.y ≤ℤ tile.bottom → s.b.y ≤ℤ tile.bottom → KeepsTo tile s
  over : tile.top ≤ℤ s.a.y → tile.top ≤ℤ s.b.y → KeepsTo tile s

abbrev pub AreRectilinear : List (List Point) → Type 0
AreRectilinear contours = All (λ c. AllRectilinear (contour_steps c)) contours

-- ---- a contour that was clamped

-- The tile's corners lie in the box.
pub record IsIn (box tile : Bounds) : Type 0 where
  pub least : LiesWithin box (record { x = tile.left; y = tile.bottom })
  pub greatest : LiesWithin box (record { x = tile.right; y = tile.top })

-- Each point of the contour stands there clamped. Where the contour's steps keep to the tile, so it winds inside as the contour does, and nowhere
-- else.
pub record IsClampedTo (tile : Bounds) (contour points : List Point) : Type 0 where
  pub is : points ≡ clamped tile contour
  pub winds :
      (p : RationalPoint) → IsTile tile → All (KeepsTo tile) (contour_steps contour)
      → contour_winding (points ∷ []) p ≡ cond (in_tile tile p) (contour_winding (contour ∷ []) p) (pos 0)
  pub within : (box : Bounds) → All (LiesWithin box) contour → IsIn box tile → All (LiesWithin box) points
