-- Holes that are joined to given shapes.
use Rattle.std.specs.Prelude.{◌≡◌, ◌≢◌, ◌⊎◌, ℕ, zero, suc, ◌+◌, ◌==◌, Bool, true, false, cond, List, [], ◌∷◌, ◌++◌, map, replicate, length, slice_index_or}
use Rattle.std.specs.Prelude.{AllPairs, Option, Some, None}
use Rattle.plane_base.specs.Plane.{Point}
use Rattle.plane_base.specs.Segments.{parted}
use Rattle.contour_walk.specs.Walks.{Contour}
use Rattle.contour_walk.specs.Binding.{Owned}
use Rattle.contour_walk.specs.BindingLaws.{all_contours}
use Rattle.contour_walk.specs.BinderSweep.{stepped_from}
use Rattle.contour_walk.specs.BinderOwners.{owner_below}

-- ---- the contours among which a hole is bound

-- a contour that stands in a shape: the way down ends there, be it an outline or a hole
abbrev pub as_bound : List Point → Contour
as_bound points = record { points = points; is_hole = false }

-- a hole whose shape is sought: from there the way down goes on
abbrev pub as_hole : List Point → Contour
as_hole points = record { points = points; is_hole = true }

-- the contours of all shapes, and then the holes
abbrev pub contours_among : List (List (List Point)) → List (List Point) → List Contour
contours_among shapes holes = map as_bound (all_contours shapes) ++ map as_hole holes

-- Their edges: the region is to the left of each step, or to the right where outlines run clockwise.
abbrev pub edges_among : Bool → List (List (List Point)) → List (List Point) → List Owned
edges_among clockwise shapes holes = stepped_from clockwise zero (contours_among shapes holes)

-- ---- the shape of a hole

-- for each contour of the shapes, from the shape n on, the number of its shape
abbrev pub shape_numbers : ℕ → List (List (List Point)) → List ℕ
shape_numbers n [] = []
shape_numbers n (s ∷ ss) = replicate (length s) n ++ shape_numbers (suc n) ss

-- the number of the shape of a contour that is met, and the first shape's where none is
abbrev pub shape_met : List ℕ → Option ℕ → ℕ
shape_met numbers None = zero
shape_met numbers (Some m) = slice_index_or numbers m zero

-- The number of the shape in which the hole n lies: that whose contour is met from hole to hole downward, or else the first.
abbrev pub shape_of_hole : Bool → List (List (List Point)) → List (List Point) → ℕ → ℕ
shape_of_hole clockwise shapes holes n =
    shape_met (shape_numbers zero shapes)
    (owner_below (edges_among clockwise shapes holes) (contours_among shapes holes) (length (contours_among shapes holes)) (length (all_contours shapes) + n))

-- the holes, from the hole n on, that lie in the shape m
abbrev pub holes_of : (ℕ → ℕ) → ℕ → ℕ → List (List Point) → List (List Point)
holes_of owner m n [] = []
holes_of owner m n (h ∷ hs) = cond (owner n == m) (h ∷ holes_of owner m (suc n) hs) (holes_of owner m (suc n) hs)

-- the shapes from the shape m on, each with those of the holes behind its contours that lie in it
abbrev pub joined_by : (ℕ → ℕ) → List (List Point) → ℕ → List (List (List Point)) → List (List (List Point))
joined_by owner holes m [] = []
joined_by owner holes m (s ∷ ss) = (s ++ holes_of owner m zero holes) ∷ joined_by owner holes (suc m) ss

-- The shapes with the holes: each in its shape, behind the contours that were there, in order.
abbrev pub joined : Bool → List (List (List Point)) → List (List Point) → List (List (List Point))
joined clockwise shapes holes = joined_by (shape_of_hole clockwise shapes holes) holes zero shapes

-- ---- on condition

-- two edges meet in common ends alone, or are equal with the region on opposite sides
abbrev pub MeetOrOppose : Owned → Owned → Type 0
MeetOrOppose o p = ((o.edge ≢ p.edge) × (parted o.edge p.edge ≡ true)) ⊎ ((o.edge ≡ p.edge) × (o.above ≢ p.above))

-- so any two of the contours' edges do
pub record CanBeBound (clockwise : Bool) (cs : List Contour) : Type 0 where
  pub meet : AllPairs MeetOrOppose (stepped_from clockwise zero cs)
