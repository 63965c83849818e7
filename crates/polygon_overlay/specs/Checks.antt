-- Masks checked for widths and spaces, told by squares.
use Rattle.std.specs.Prelude.{ℤ, pos, neg_ℤ, ◌+ℤ◌, ◌-ℤ◌, ◌*ℤ◌, ◌≤ℤ◌, ◌<ℤ◌, List}
use Rattle.std.specs.Int.{int_div_euclid}
use Rattle.plane_base.specs.Plane.{Point, RationalPoint, IsRational, IsCoordinate}
use Rattle.plane_base.specs.Regions.{FillRule}
use Rattle.polygon_overlay.specs.Sizing.{Amounts, IsSized, IsFilledBy}
use Rattle.polygon_overlay.specs.Tiles.{AreRectilinear}

-- ---- squares

-- The point lies in the square of this side that stands right of the corner and above it: from its left side on, its right side left out, and up to
-- its top, its bottom left out, as regions do.
pub record LiesInSquare (side : ℤ) (corner p : RationalPoint) : Type 0 where
  pub left : (pos p.q *ℤ corner.x) ≤ℤ (pos corner.q *ℤ p.x)
  pub right : (pos corner.q *ℤ p.x) <ℤ (pos p.q *ℤ (corner.x +ℤ (pos corner.q *ℤ side)))
  pub bottom : (pos p.q *ℤ corner.y) <ℤ (pos corner.q *ℤ p.y)
  pub top : (pos corner.q *ℤ p.y) ≤ℤ (pos p.q *ℤ (corner.y +ℤ (pos corner.q *ℤ side)))

-- Some square of this side covers the point and lies in the region, with each of its rational points. It may stand anywhere, off the grid too.
pub record IsCovered (side : ℤ) (In : RationalPoint → Type 0) (p : RationalPoint) : Type 0 where
  pub corner : RationalPoint
  pub rational : IsRational corner
  pub covers : LiesInSquare side corner p
  pub inside : (m : RationalPoint) → IsRational m → LiesInSquare side corner m → In m

-- m lies no further from p than this, neither in x nor in y.
pub record IsNear (distance : ℤ) (p m : RationalPoint) : Type 0 where
  pub left : (pos m.q *ℤ (p.x -ℤ (pos p.q *ℤ distance))) ≤ℤ (pos p.q *ℤ m.x)
  pub right : (pos p.q *ℤ m.x) ≤ℤ (pos m.q *ℤ (p.x +ℤ (pos p.q *ℤ distance)))
  pub bottom : (pos m.q *ℤ (p.y -ℤ (pos p.q *ℤ distance))) ≤ℤ (pos p.q *ℤ m.y)
  pub top : (pos p.q *ℤ m.y) ≤ℤ (pos m.q *ℤ (p.y +ℤ (pos p.q *ℤ distance)))

-- ---- errors

-- a point of the mask that no square of the width in the mask covers
abbrev pub IsWidthError : ℤ → (RationalPoint → Type 0) → RationalPoint → Type 0
IsWidthError width Filled p = Filled p × (IsCovered width Filled p → ⊥)

-- A point outside the mask that no square of the space outside covers: in a gap between two parts, or in a notch of one.
abbrev pub IsSpaceError : ℤ → (RationalPoint → Type 0) → RationalPoint → Type 0
IsSpaceError space Filled p = (Filled p → ⊥) × (IsCovered space (λ m. Filled m → ⊥) p → ⊥)

-- ---- sides, and the amounts by which they are checked

-- 1 or more, and in range either way.
pub record IsSide (least greatest side : ℤ) : Type 0 where
  pub some : pos 1 ≤ℤ side
  pub on : IsCoordinate least greatest side
  pub back : IsCoordinate least greatest (neg_ℤ side)

-- all sides outward by one distance
abbrev pub evenly : ℤ → Amounts
evenly distance = record { left = distance; right = distance; bottom = distance; top = distance }

abbrev pub opposite : Amounts → Amounts
opposite by = record { left = neg_ℤ by.left; right = neg_ℤ by.right; bottom = neg_ℤ by.bottom; top = neg_ℤ by.top }

-- One less than the side in two parts, the same in x and in y: so a window that reaches from a place by these covers as many whole places as the
-- side is long.
abbrev pub halves : ℤ → Amounts
halves side =
    let half = int_div_euclid (side -ℤ pos 1) (pos 2) in
    let rest = (side -ℤ pos 1) -ℤ half in
    record { left = half; right = rest; bottom = half; top = rest }

-- ---- what is grown by one distance

-- Grown by one distance, a region of horizontal and vertical edges has the points that are no further from some point of it, in x and in y.
abbrev pub GrownIsNear : Type 0
GrownIsNear =
    (distance : ℤ) (fill : FillRule) (contours : List (List Point)) (p : RationalPoint) → pos 0 ≤ℤ distance → AreRectilinear contours → IsRational p
    → (IsSized (evenly distance) (IsFilledBy fill contours) p → (m : RationalPoint) × IsRational m × IsNear distance p m × IsFilledBy fill contours m)
    × ((m : RationalPoint) × IsRational m × IsNear distance p m × IsFilledBy fill contours m → IsSized (evenly distance) (IsFilledBy fill contours) p)
