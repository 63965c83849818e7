-- Which shapes lie in holes of others.
use Rattle.std.specs.Prelude.{ℕ, zero, suc, Bool, true, false, cond, List, [], ◌∷◌, ◌++◌, map, flat_map, length, Option, Some, None}
use Rattle.plane_base.specs.Plane.{Point}
use Rattle.contour_walk.specs.Answering.{Answering, answer_with}
use Rattle.contour_walk.specs.Walks.{Border, Contour}
use Rattle.contour_walk.specs.Binding.{Owned, contour_at}
use Rattle.contour_walk.specs.BinderSweep.{stepped_from}
use Rattle.contour_walk.specs.JoinedHoles.{as_hole, shape_numbers}
use Rattle.contour_walk.specs.Shapes.{is_owned_by}
use Rattle.contour_walk.specs.ShapeViews.{met_below}
use Rattle.contour_walk.specs.declared.hierarchy.ChildLink.{ChildLink}

-- ---- the contours of shapes

-- the contours of a shape: an outline, and then its holes
abbrev pub contours_of_shape : List (List Point) → List Contour
contours_of_shape [] = []
contours_of_shape (outline ∷ holes) = record { points = outline; is_hole = false } ∷ map as_hole holes

-- all contours of shapes, in order
abbrev pub contours_in : List (List (List Point)) → List Contour
contours_in shapes = flat_map contours_of_shape shapes

-- Their edges: the region is to the left of each step, or to the right where outlines run clockwise.
abbrev pub edges_in : Bool → List (List (List Point)) → List Owned
edges_in clockwise shapes = stepped_from clockwise zero (contours_in shapes)

-- ---- the hole in which a shape lies

-- Going down from the anchor of the outline n, the first edge met with the region below it tells the hole in which the shape lies: the
-- hole of that edge, or, where the edge is an outline's, the hole in which that outline's shape lies. Each outline met has a lesser anchor, so
-- no more steps are taken than there are contours.
abbrev pub parent_below : List Owned → List Contour → ℕ → ℕ → Option ℕ
parent_below edges cs zero n = None
parent_below edges cs (suc steps) n =
    elim (met_below false edges cs n) [
      | None ↦ None
      | Some m ↦
          elim (contour_at cs m) [
            | None ↦ None
            | Some d ↦ cond d.is_hole (Some m) (parent_below edges cs steps m)
          ]
    ]

-- the numbers of outlines, of contours from the number n on
abbrev pub outlines_from : ℕ → List Contour → List ℕ
outlines_from n [] = []
outlines_from n (c ∷ cs) = cond c.is_hole (outlines_from (suc n) cs) (n ∷ outlines_from (suc n) cs)

-- for each shape in order the hole in which it lies, by its number among all contours, if it lies in one
abbrev pub parents_in : Bool → List (List (List Point)) → List (Option ℕ)
parents_in clockwise shapes = let cs = contours_in shapes in map (parent_below (edges_in clockwise shapes) cs (length cs)) (outlines_from zero cs)

-- ---- links

-- the shapes, from the shape n on, that lie in the hole
abbrev pub children_of : ℕ → ℕ → List (Option ℕ) → List ℕ
children_of hole n [] = []
children_of hole n (p ∷ ps) = cond (is_owned_by hole p) (n ∷ children_of hole (suc n) ps) (children_of hole (suc n) ps)

abbrev pub link_to : ℕ → ℕ → ℕ → ChildLink
link_to shape contour child = record { parent_shape_index = shape; parent_contour_index = contour; child_shape_index = child }

-- the links of the contours from the number m on, each contour given by the number of its shape
abbrev pub links_from : List (Option ℕ) → ℕ → List ℕ → List ChildLink
links_from parents m [] = []
links_from parents m (shape ∷ shapes) = map (link_to shape m) (children_of m zero parents) ++ links_from parents (suc m) shapes

-- For each contour in order a link to each shape that lies in it, in order of the shapes. The shapes have all their points.
abbrev pub child_links : Bool → List (List (List Point)) → List ChildLink
child_links clockwise shapes = links_from (parents_in clockwise shapes) zero (shape_numbers zero shapes)

-- The links of an answer: those of its shapes with all their points.
abbrev pub answer_links : Answering → List Border → List ChildLink
answer_links o links =
    child_links o.clockwise (answer_with (record { clockwise = o.clockwise; keep_all = true; parted = o.parted; least = o.least }) links)
