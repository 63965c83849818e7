-- The sweep that finds what lies below the anchors of holes.
use Rattle.std.specs.Prelude.{◌≡◌, ◌≢◌, ◌≤◌, ℕ, suc, ℤ, ◌≤ℤ◌, ◌<ℤ◌, Bool, true, false, not, ◌&&◌, cond, int_lt}
use Rattle.std.specs.Prelude.{List, [], ◌∷◌, ◌++◌, map, filter, take, All, AllPairs, Contains, Option, Some, None}
use Rattle.std.specs.Option.{ForSome}
use Rattle.std.specs.declared.cmp.Ordering.{Ordering}
use Rattle.i_tree.specs.LiveList.{LiveList, live_at}
use Rattle.plane_base.specs.Plane.{Edge, is_before}
use Rattle.plane_base.specs.Segments.{parted}
use Rattle.contour_walk.specs.Walks.{Contour, between}
use Rattle.contour_walk.specs.WalkLaws.{contour_steps}
use Rattle.contour_walk.specs.Binding.{Owned, anchor}
use Rattle.contour_walk.specs.BindingLaws.{AreApart}

-- ---- edges and anchors

-- The edge of a step of a contour: the region is to the left of the step, or to the right where outlines run clockwise.
abbrev pub owned_step : Bool → ℕ → Edge → Owned
owned_step output n s = record { edge = between s.a s.b; above = cond output (not (is_before s.a s.b)) (is_before s.a s.b); contour = n }

-- the edges of the contours from the number n on
abbrev pub stepped_from : Bool → ℕ → List Contour → List Owned
stepped_from output n [] = []
stepped_from output n (c ∷ cs) = map (owned_step output n) (contour_steps c.points) ++ stepped_from output (suc n) cs

-- the region is above it, and it isn't vertical
abbrev pub is_swept : Owned → Bool
is_swept o = o.above && int_lt o.edge.a.x o.edge.b.x

-- the anchors of holes, from the contour n on
abbrev pub hole_anchors : ℕ → List Contour → List Owned
hole_anchors n [] = []
hole_anchors n (c ∷ cs) =
    elim (cond c.is_hole (anchor c.points) None) [
      | None ↦ hole_anchors (suc n) cs
      | Some e ↦ record { edge = e; above = false; contour = n } ∷ hole_anchors (suc n) cs
    ]

-- the first ends don't go back
abbrev pub AreRising : List Owned → Type 0
AreRising os = AllPairs (λ o p. o.edge.a.x ≤ℤ p.edge.a.x) os

-- ---- what a sweep can hold, and what can be sought there

-- edges with the region above them, any two different ones of them parted, none there twice, by rising first ends
pub record AreSweepable (os : List Owned) : Type 0 where
  pub above : All (λ o. o.above ≡ true) os
  pub apart : AreApart os
  pub once : AllPairs (λ o p. o.edge ≢ p.edge) os
  pub rising : AreRising os

-- The edge isn't vertical, and is parted from each of the others that it isn't.
pub record IsSought (os : List Owned) (e : Edge) : Type 0 where
  pub wide : e.a.x <ℤ e.b.x
  pub apart : (o : Owned) → Contains os o → e ≢ o.edge → parted e o.edge ≡ true

-- the number of the contour that is met, if there is one
abbrev pub number_met : Option Owned → Option ℕ
number_met None = None
number_met (Some o) = Some o.contour

-- ---- the live entries

-- the live entries are these edges, each with its contour
pub record HoldsEdges {K : Type 0} (edge : K → Edge) (list : List Owned) (live : List (K × Option ℕ)) : Type 0 where
  pub sound : (k : K) (met : Option ℕ) → Contains live (k, met) → (o : Owned) × Contains list o × (edge k ≡ o.edge) × (met ≡ Some o.contour)
  pub complete : (o : Owned) → Contains list o → (k : K) × Contains live (k, Some o.contour) × (edge k ≡ o.edge)

-- the edges whose second end is beyond the column
abbrev pub reaching : ℤ → List Owned → List Owned
reaching x os = filter (λ o. int_lt x o.edge.b.x) os

-- The first n edges were swept up to the column x: they begin there or before it, no time was after it, and at each time from there on
-- the live entries are those of them that reach beyond it.
pub record IsSwept {K E : Type 0} (value : E → ℤ) (cmp : E → E → Ordering) (expires : K → E) (edge : K → Edge)
    (os : List Owned) (n : ℕ) (x : ℤ) (kept : LiveList K E (Option ℕ)) : Type 0 where
  pub begun : All (λ o. o.edge.a.x ≤ℤ x) (take n os)
  pub in_time : ForSome kept.latest_time (λ time. value time ≤ℤ x)
  pub few : kept.insertions ≤ n
  pub holds : (time : E) → x ≤ℤ value time → HoldsEdges edge (reaching (value time) (take n os)) (live_at cmp expires time kept.entries)
