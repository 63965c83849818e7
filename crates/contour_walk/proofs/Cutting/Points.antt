-- No loop comes to a point twice.
use Rattle.std.proofs.Common.{◌≡◌, ℕ, ◌+◌, ◌<◌, Bool, true, false, List, [], ◌∷◌, ◌++◌, length, take, drop, get_or, All}
use Rattle.std.proofs.Common.{Option, Some, None, refl, sym, ap, ◌∙◌, subst, length-drop, arith}
use Rattle.std.specs.Prelude.{AllPairs}
use Rattle.std.proofs.lemmas.List.{get_or-take, get_or-drop, length-take}
use Rattle.std.proofs.lemmas.List.Elements.{All-nil, All-cons}
use Rattle.std.proofs.lemmas.List.Quantifiers.{all_pairs_push}
use Rattle.plane_base.specs.Plane.{Point}
use Rattle.contour_walk.specs.Walks.{same_point}
use Rattle.contour_walk.specs.Loops.{place_of, loops_from}
use Rattle.contour_walk.specs.LoopLaws.{Apart, LoopsRepeatNoPoint}
use Rattle.contour_walk.proofs.Walks.Links.{same_point_is, same_point_itself}
use Rattle.contour_walk.proofs.Cutting.Places.{place_same, place_none, same_point_back, cuts_out, goes_on}

pub not_same : (p r : Point) → (same_point p r ≡ true → ⊥) → same_point p r ≡ false
not_same p r h = by (same_point p r) refl
  where
    by : (b : Bool) → same_point p r ≡ b → same_point p r ≡ false
    by true e = absurd (h e)
    by false e = e

kept_apart : (p : Point) (kept : List Point) → place_of p kept ≡ None → AllPairs Apart kept → AllPairs Apart (kept ++ p ∷ [])
kept_apart p kept e apart =
    all_pairs_push Apart kept p apart (λ k d h. not_same (get_or kept k d) p (λ s. place_none p kept k d h (same_point_back (get_or kept k d) p s) e))

taken_apart : (n : ℕ) (kept : List Point) → AllPairs Apart kept → AllPairs Apart (take n kept)
taken_apart n kept apart i j d before inside =
    let within : j < n = omega (arith, length-take n kept) in
    let below : j < length kept = omega (arith, length-take n kept) in
    let first : get_or (take n kept) i d ≡ get_or kept i d = get_or-take n kept i d (omega arith) in
    let second : get_or (take n kept) j d ≡ get_or kept j d = get_or-take n kept j d within in
    ap (λ p. same_point p (get_or (take n kept) j d)) first ∙ (ap (same_point (get_or kept i d)) second ∙ apart i j d before below)

dropped_apart : (n : ℕ) (kept : List Point) → AllPairs Apart kept → AllPairs Apart (drop n kept)
dropped_apart n kept apart i j d before inside =
    ap (λ p. same_point p (get_or (drop n kept) j d)) (get_or-drop n kept i d)
    ∙ (ap (same_point (get_or kept (n + i) d)) (get_or-drop n kept j d)
    ∙ apart (n + i) (n + j) d (omega arith) (omega (arith, length-drop n kept)))

cut_apart : (p : Point) (kept : List Point) (i : ℕ) → place_of p kept ≡ Some i → AllPairs Apart kept → AllPairs Apart (drop (i + 1) kept ++ p ∷ [])
cut_apart p kept i e apart =
    all_pairs_push Apart (drop (i + 1) kept) p (dropped_apart (i + 1) kept apart) (λ k d h.
    let here = get_or kept i d in
    let there = get_or kept (i + 1 + k) d in
    let other : same_point here there ≡ false = apart i (i + 1 + k) d (omega arith) (omega (arith, length-drop (i + 1) kept)) in
    not_same (get_or (drop (i + 1) kept) k d) p (λ s.
    let at : get_or (drop (i + 1) kept) k d ≡ there = get_or-drop (i + 1) kept k d in
    let same : here ≡ there = sym (same_point_is p here (place_same p kept i d e)) ∙ (sym (same_point_is (get_or (drop (i + 1) kept) k d) p s) ∙ at) in
    let z : true ≡ false = sym (same_point_itself here there same) ∙ other in cc))

repeat_none : (rest kept : List Point) → AllPairs Apart kept → All (AllPairs Apart) (loops_from kept rest)
repeat_none [] kept apart = All-cons (AllPairs Apart) kept [] apart (All-nil (AllPairs Apart))
repeat_none (p ∷ rest) kept apart = by (place_of p kept) refl (λ ks h. repeat_none rest ks h)
  where
    by : (o : Option ℕ) → place_of p kept ≡ o → ((ks : List Point) → AllPairs Apart ks → All (AllPairs Apart) (loops_from ks rest))
        → All (AllPairs Apart) (loops_from kept (p ∷ rest))
    by None e more = subst (All (AllPairs Apart)) (sym (goes_on kept p rest e)) (more (kept ++ p ∷ []) (kept_apart p kept e apart))
    by (Some i) e more =
        subst (All (AllPairs Apart)) (sym (cuts_out kept p rest i e))
        (All-cons (AllPairs Apart) (drop (i + 1) kept ++ p ∷ []) (loops_from (take (i + 1) kept) rest) (cut_apart p kept i e apart) (more
        (take (i + 1) kept) (taken_apart (i + 1) kept apart)))

pub loops_repeat_no_point : LoopsRepeatNoPoint
loops_repeat_no_point points = repeat_none points [] (λ i j d before inside. absurd (omega arith))
