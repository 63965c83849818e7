-- In which shape a hole lies.
use Rattle.std.specs.Prelude.{ℕ, zero, suc, Bool, true, false, not, ◌&&◌, cond, pos, int_lt, int_le, List, [], ◌∷◌, ◌++◌, map, filter, Option}
use Rattle.std.specs.Prelude.{Some, None}
use Rattle.plane_base.specs.Plane.{Point, Edge, turn, is_before}
use Rattle.plane_base.specs.Segments.{precedes}
use Rattle.contour_walk.specs.Walks.{Border, Contour, same_point, same_edge, contour_edges}

-- ---- the anchor

abbrev pub lesser_point : Point → Option Point → Point
lesser_point p None = p
lesser_point p (Some r) = cond (is_before r p) r p

abbrev pub least_point : List Point → Option Point
least_point [] = None
least_point (p ∷ ps) = Some (lesser_point p (least_point ps))

-- of two edges from one point that to the right of the other
abbrev pub lower : Edge → Option Edge → Edge
lower s None = s
lower s (Some t) = cond (int_lt (turn s.a s.b t.b) (pos 0)) t s

-- the lowest edge that starts at the point
abbrev pub lowest_from : Point → List Edge → Option Edge
lowest_from v [] = None
lowest_from v (s ∷ ss) = cond (same_point s.a v) (Some (lower s (lowest_from v ss))) (lowest_from v ss)

-- the lowest edge at a contour's least point
abbrev pub anchor : List Point → Option Edge
anchor points =
    elim (least_point points) [
      | None ↦ None
      | Some v ↦ lowest_from v (contour_edges points)
    ]

-- ---- the way down

-- an edge of an answer, whether the region is above it, and the number of its contour
pub record Owned : Type 0 where
  pub edge : Edge
  pub above : Bool
  pub contour : ℕ

-- whether the region is above the edge
abbrev pub is_above : List Border → Edge → Bool
is_above [] s = false
is_above (l ∷ ls) s = cond (same_edge l.edge s) l.above (is_above ls s)

abbrev pub owned_from : List Border → ℕ → List Contour → List Owned
owned_from links n [] = []
owned_from links n (c ∷ cs) =
    map (λ s. record { edge = s; above = is_above links s; contour = n }) (contour_edges c.points) ++ owned_from links (suc n) cs

-- the edge reaches over the column that begins at e's first end, and passes below e there
abbrev pub is_under : Edge → Edge → Bool
is_under e s = (int_le s.a.x e.a.x && int_lt e.a.x s.b.x) && precedes s e

abbrev pub higher : Owned → Option Owned → Owned
higher o None = o
higher o (Some p) = cond (precedes o.edge p.edge) p o

abbrev pub highest : List Owned → Option Owned
highest [] = None
highest (o ∷ os) = Some (higher o (highest os))

-- Going down from just right of e's first end and just below e: the first edge met that has the region above it, or that
-- has not, as is wanted.
abbrev pub way_down : List Owned → Bool → Edge → Option Owned
way_down edges above e = highest (filter (λ o. cond above o.above (not o.above) && is_under e o.edge) edges)

-- ---- the owner

abbrev pub contour_at : List Contour → ℕ → Option Contour
contour_at [] n = None
contour_at (c ∷ cs) zero = Some c
contour_at (c ∷ cs) (suc n) = contour_at cs n

-- The outline of the shape in which a hole lies, by its number: that of the first edge met with the region above it, where
-- the edge is an outline's, and the owner of its hole where it is a hole's. Each hole met has a lesser anchor, so no more
-- steps are taken than there are contours.
abbrev pub hole_owner : List Border → List Contour → ℕ → ℕ → Option ℕ
hole_owner links contours zero hole = None
hole_owner links contours (suc n) hole =
    elim (contour_at contours hole) [
      | None ↦ None
      | Some c ↦
          elim (anchor c.points) [
            | None ↦ None
            | Some e ↦
                elim (way_down (owned_from links zero contours) true e) [
                  | None ↦ None
                  | Some o ↦
                      elim (contour_at contours o.contour) [
                        | None ↦ None
                        | Some d ↦ cond d.is_hole (hole_owner links contours n o.contour) (Some o.contour)
                      ]
                ]
          ]
    ]
