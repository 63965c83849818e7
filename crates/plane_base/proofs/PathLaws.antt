-- The contours of several shapes, counted and found by their place.
use Rattle.std.specs.Prelude.{◌≡◌, ℕ, ◌+◌, ◌<◌, ◌≤◌, List, [], ◌∷◌, length, slice_index_or}
use Rattle.std.proofs.Common.{arith, sym, ap, ◌∙◌, subst, take, get_or}
use Rattle.std.proofs.lemmas.List.{take_more, length-append, length-map, get_or-map}
use Rattle.std.proofs.lemmas.Grind.{flat_map-append}
use Rattle.std.proofs.lemmas.List.Concat.{flat_map-cons, get_or-flat_map}
use Rattle.std.proofs.lemmas.List.Folds.{length-flat_map-take}
use Rattle.plane_base.specs.declared.path.IntPath.{IntPath}
use Rattle.plane_base.specs.declared.path.IntShape.{IntShape}
use Rattle.plane_base.specs.PathViews.{paths_of_shape, paths_of_shapes}

module _ {I : Type 0} (shapes : List (IntShape I)) (i : ℕ) (s : IntShape I) (inside : i < length shapes) (is : s ≡ slice_index_or shapes i s) where
  own : length (paths_of_shape (get_or shapes i s)) ≡ length s.contours.items
  own = ap (λ t. length (paths_of_shape t)) (sym is) ∙ length-map s.contours.items (λ c. c.points.items)

  pub paths_counted : length (paths_of_shapes (take (i + 1) shapes)) ≡ length (paths_of_shapes (take i shapes)) + length s.contours.items
  paths_counted =
      ap (λ l. length (paths_of_shapes l)) (take_more shapes i s inside)
      ∙ ap length (flat_map-append paths_of_shape (take i shapes) (get_or shapes i s ∷ []))
      ∙ length-append (paths_of_shapes (take i shapes)) (paths_of_shapes (get_or shapes i s ∷ []))
      ∙ ap (λ n. length (paths_of_shapes (take i shapes)) + n)
      (ap length (flat_map-cons paths_of_shape (get_or shapes i s) []) ∙ length-append (paths_of_shape (get_or shapes i s)) [] ∙ with_none ∙ own)
    where
      with_none : length (paths_of_shape (get_or shapes i s)) + 0 ≡ length (paths_of_shape (get_or shapes i s))
      with_none = omega arith

  pub paths_within : length (paths_of_shapes (take i shapes)) + length s.contours.items ≤ length (paths_of_shapes shapes)
  paths_within =
      subst (λ n. length (paths_of_shapes (take i shapes)) + n ≤ length (paths_of_shapes shapes)) own
      (length-flat_map-take paths_of_shape shapes i s inside)

  pub path_found :
      (j : ℕ) (path : IntPath I) → j < length s.contours.items → path ≡ slice_index_or s.contours.items j path
      → path.points.items ≡ slice_index_or (paths_of_shapes shapes) (length (paths_of_shapes (take i shapes)) + j) []
  path_found j path within at =
      ap (λ p. p.points.items) at
      ∙ sym (get_or-map (λ c. c.points.items) s.contours.items j path [] within)
      ∙ ap (λ t. get_or (paths_of_shape t) j []) is
      ∙ sym (get_or-flat_map paths_of_shape shapes i j s [] inside (subst (λ n. j < n) (sym own) within))
