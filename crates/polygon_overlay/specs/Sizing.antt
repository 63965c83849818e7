-- Sizing: regions of horizontal and vertical edges, grown or shrunk by whole distances, first in x and then in y.
use Rattle.std.specs.Prelude.{◌≡◌, ◌⊎◌, ℤ, pos, neg_ℤ, ◌+ℤ◌, ◌-ℤ◌, ◌*ℤ◌, ◌≤ℤ◌, ◌<ℤ◌, true, cond, int_lt, List, [], ◌∷◌, flat_map}
use Rattle.std.specs.Ordering.{int_eq}
use Rattle.plane_base.specs.Plane.{Point, Edge, RationalPoint, IsRational}
use Rattle.plane_base.specs.Regions.{FillRule, is_filled}
use Rattle.plane_base.specs.Windings.{contour_winding}
use Rattle.contour_walk.specs.WalkLaws.{contour_steps}

-- By how much the sides of a region move outward: left sides to the left, right sides to the right, bottoms down, tops up. Below 0 they move
-- inward.
pub record Amounts : Type 0 where
  pub left : ℤ
  pub right : ℤ
  pub bottom : ℤ
  pub top : ℤ

-- ---- the sized region

-- m lies in the row of p, at most `back` left of it and at most `on` right of it.
pub record LiesInRow (back on : ℤ) (p m : RationalPoint) : Type 0 where
  pub rational : IsRational m
  pub row : pos p.q *ℤ m.y ≡ pos m.q *ℤ p.y
  pub from : (pos m.q *ℤ (p.x -ℤ (pos p.q *ℤ back))) ≤ℤ (pos p.q *ℤ m.x)
  pub to : (pos p.q *ℤ m.x) ≤ℤ (pos m.q *ℤ (p.x +ℤ (pos p.q *ℤ on)))

-- Where left and right are together 0 or more: some point of p's row is filled, from p.x - right to p.x + left. Where they are less: each point is,
-- from p.x + left to p.x - right.
pub record IsSizedAcross (left right : ℤ) (Filled : RationalPoint → Type 0) (p : RationalPoint) : Type 0 where
  pub grown : pos 0 ≤ℤ (left +ℤ right) → (m : RationalPoint) × LiesInRow right left p m × Filled m
  pub shrunk : (left +ℤ right) <ℤ pos 0 → (m : RationalPoint) → LiesInRow (neg_ℤ left) (neg_ℤ right) p m → Filled m

abbrev pub exchanged : RationalPoint → RationalPoint
exchanged p = record { x = p.y; y = p.x; q = p.q }

-- The same in y: with x and y exchanged.
abbrev pub IsSizedUp : ℤ → ℤ → (RationalPoint → Type 0) → RationalPoint → Type 0
IsSizedUp bottom top Filled p = IsSizedAcross bottom top (λ m. Filled (exchanged m)) (exchanged p)

-- First in x, then in y.
abbrev pub IsSized : Amounts → (RationalPoint → Type 0) → RationalPoint → Type 0
IsSized by Filled p = IsSizedUp by.bottom by.top (IsSizedAcross by.left by.right Filled) p

-- the windings of contours fill the point
abbrev pub IsFilledBy : FillRule → List (List Point) → RationalPoint → Type 0
IsFilledBy fill contours p = is_filled fill (contour_winding contours p) ≡ true

-- Each rational point lies in the region, and there the contours wind so many times, or it doesn't, and there they don't.
abbrev pub WindWhere : ℤ → (RationalPoint → Type 0) → List (List Point) → Type 0
WindWhere turns Inside contours =
    (p : RationalPoint) → IsRational p → (Inside p × (contour_winding contours p ≡ turns)) ⊎ ((Inside p → ⊥) × (contour_winding contours p ≡ pos 0))

-- ---- moved contours

-- A vertical step of an answer, moved outward: upward it is a right side, downward a left one. Nothing of a horizontal one.
abbrev pub moved_across : ℤ → ℤ → Edge → List Point
moved_across left right s =
    let x = cond (int_lt s.a.y s.b.y) right (neg_ℤ left) in
    cond (int_eq s.a.y s.b.y) [] (record { x = s.a.x +ℤ x; y = s.a.y } ∷ record { x = s.b.x +ℤ x; y = s.b.y } ∷ [])

-- A horizontal step, moved outward: to the right it is a bottom, to the left a top. Nothing of a vertical one.
abbrev pub moved_up : ℤ → ℤ → Edge → List Point
moved_up bottom top s =
    let y = cond (int_lt s.b.x s.a.x) top (neg_ℤ bottom) in
    cond (int_eq s.a.x s.b.x) [] (record { x = s.a.x; y = s.a.y +ℤ y } ∷ record { x = s.b.x; y = s.b.y +ℤ y } ∷ [])

-- The steps of a contour, each moved. From one to the next it is horizontal, where vertical ones move, and vertical, where horizontal ones do.
abbrev pub moved : (Edge → List Point) → List Point → List Point
moved move contour = flat_map move (contour_steps contour)
