-- What holds of the points of walks holds of those of their pieces.
use Rattle.std.proofs.Common.{ℕ, zero, suc, ◌==◌, Bool, true, false, not, cond, List, [], ◌∷◌, ◌++◌, map, flat_map, filter, All}
use Rattle.std.proofs.lemmas.List.Elements.{All-nil, All-cons, All-head, All-tail, All-append, All-filter}
use Rattle.plane_base.specs.Plane.{Point}
use Rattle.contour_walk.specs.BindingLaws.{all_contours}
use Rattle.contour_walk.specs.JoinedHoles.{holes_of, joined_by, shape_of_hole}
use Rattle.contour_walk.specs.LoopLaws.{LoopsKeepSteps}
use Rattle.contour_walk.specs.Loops.{long_loops}
use Rattle.polygon_strings.specs.Slices.{is_outline, pieces}
use Rattle.polygon_strings.proofs.Slicing.Binding.{loops_within}

module _ (Q : List Point → Type 0) where
  holes_keep : (owner : ℕ → ℕ) (m n : ℕ) (holes : List (List Point)) → All Q holes → All Q (holes_of owner m n holes)
  holes_keep owner m n [] h = All-nil Q
  holes_keep owner m n (l ∷ ls) h = by (owner n == m) (holes_keep owner m (suc n) ls (All-tail Q l ls h))
    where
      rest : List (List Point)
      rest = holes_of owner m (suc n) ls

      by : (b : Bool) → All Q rest → All Q (cond b (l ∷ rest) rest)
      by true k = All-cons Q l rest (All-head Q l ls h) k
      by false k = k

  joined_keep : (owner : ℕ → ℕ) (holes : List (List Point)) (m : ℕ) (shapes : List (List (List Point))) → All Q holes → All (All Q) shapes
      → All Q (all_contours (joined_by owner holes m shapes))
  joined_keep owner holes m [] h k = All-nil Q
  joined_keep owner holes m (s ∷ ss) h k =
      All-append Q (s ++ holes_of owner m zero holes) (all_contours (joined_by owner holes (suc m) ss))
      (All-append Q s (holes_of owner m zero holes) (All-head (All Q) s ss k) (holes_keep owner m zero holes h))
      (joined_keep owner holes (suc m) ss h (All-tail (All Q) s ss k))

  alone_keep : (ls : List (List Point)) → All Q ls → All (All Q) (map (λ l. l ∷ []) ls)
  alone_keep [] h = All-nil (All Q)
  alone_keep (l ∷ ls) h =
      All-cons (All Q) (l ∷ []) (map (λ (k : List Point). k ∷ []) ls) (All-cons Q l [] (All-head Q l ls h) (All-nil Q)) (alone_keep ls (All-tail Q l ls h))

pub pieces_keep : (keep : LoopsKeepSteps) (P : Point → Type 0) (output : Bool) (least : ℕ) (walks : List (List Point)) → All (All P) walks
    → All (All P) (all_contours (pieces output least walks))
pieces_keep keep P output least walks h =
    let found : List (List Point) = flat_map (long_loops least) walks in
    let within : All (All P) found = loops_within keep least P walks h in
    let outlines : List (List (List Point)) = map (λ (l : List Point). l ∷ []) (filter (is_outline output) found) in
    let holes : List (List Point) = filter (λ l. not (is_outline output l)) found in
    joined_keep (All P) (shape_of_hole output outlines holes) holes zero outlines (All-filter (λ l. not (is_outline output l)) (All P) found within)
    (alone_keep (All P) (filter (is_outline output) found) (All-filter (is_outline output) (All P) found within))
