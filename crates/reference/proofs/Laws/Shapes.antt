-- Holes and shapes at a place whose element is not named.
use Rattle.std.proofs.Common.{◌≡◌, ap, ℕ, ◌+◌, ◌-◌, ◌<◌, ◌≤◌, List, [], ◌++◌, map, drop, length, get_or, arith}
use Rattle.std.proofs.Math.ListN.{drop_of_length-le}
use Rattle.std.proofs.lemmas.List.{length-map}
use Rattle.contour_walk.specs.Walks.{Border, Contour}
use Rattle.contour_walk.specs.Shapes.{holes_from, shapes_from}
use Rattle.contour_walk.specs.ShapeViews.{hole_in, shape_of}
use Rattle.contour_walk.proofs.Facts.Contours.Rays.{an_element}
use Rattle.contour_walk.proofs.Facts.Contours.Shapes.{holes_from_more, shapes_from_more}

module _ {X : Type 0} (f : X → Contour) (xs : List X) (links : List Border) where
  pub no_holes_left : (outline i : ℕ) → length xs ≤ i → holes_from links (map f xs) outline i (drop i (map f xs)) ≡ []
  no_holes_left outline i h =
      let long : length (map f xs) ≤ i = omega (arith, length-map xs f) in
      ap (holes_from links (map f xs) outline i) (drop_of_length-le (map f xs) long)

pub holes_more : {X : Type 0} (f : X → Contour) (xs : List X) (links : List Border) (i outline : ℕ) → i < length xs
    → holes_from links (map f xs) outline i (drop i (map f xs)) ≡ hole_in links (map f xs) outline i ++ holes_from links (map f xs) outline (i + 1) (drop (i + 1) (map f xs))
holes_more {X = X} f xs links i outline h =
    let found : (x : X) × (x ≡ get_or xs i x) = an_element xs i h in
    holes_from_more f xs links i found.0 h found.1 outline

pub shapes_more : {X : Type 0} (f : X → Contour) (xs : List X) (links : List Border) (i : ℕ) → i < length xs
    → shapes_from links (map f xs) i (drop i (map f xs)) ≡ shape_of links (map f xs) i ++ shapes_from links (map f xs) (i + 1) (drop (i + 1) (map f xs))
shapes_more {X = X} f xs links i h =
    let found : (x : X) × (x ≡ get_or xs i x) = an_element xs i h in
    shapes_from_more f xs links i found.0 h found.1
