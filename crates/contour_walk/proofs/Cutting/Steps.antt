-- Loops keep the steps of their path, and repeat no point.
use Rattle.std.proofs.Common.{◌≡◌, ℕ, suc, ◌+◌, Bool, true, false, cond, List, [], ◌∷◌, ◌++◌}
use Rattle.std.proofs.Common.{flat_map, take, drop, Option, Some, None}
use Rattle.std.proofs.Common.{IsPermutation, refl, sym, ap, ◌∙◌, subst, append_assoc, append-nil, arith}
use Rattle.std.proofs.lemmas.List.Sorted.{IsPermutation-refl, IsPermutation-sym, IsPermutation-trans, IsPermutation-append_left}
use Rattle.std.proofs.lemmas.List.Sorted.{IsPermutation-append_right, IsPermutation-append_comm, IsPermutation-to_front}
use Rattle.plane_base.specs.Plane.{Point, Edge}
use Rattle.contour_walk.specs.Walks.{same_point}
use Rattle.contour_walk.specs.WalkLaws.{steps_to, contour_steps}
use Rattle.contour_walk.specs.Loops.{one_later, place_of, loops_from}
use Rattle.contour_walk.proofs.Walks.Links.{same_point_is}
use Rattle.contour_walk.proofs.Cutting.Places.{cuts_out, goes_on}

-- the steps of a path that goes on with a point are those to the point, and those from there
pub steps_apart : (first p : Point) (ps rest : List Point) → steps_to first (ps ++ p ∷ rest) ≡ steps_to p ps ++ steps_to first (p ∷ rest)
steps_apart first p [] rest = refl
steps_apart first p (q ∷ []) rest = refl
steps_apart first p (q ∷ r ∷ ps) rest = ap (λ es. record { a = q; b = r } ∷ es) (steps_apart first p (r ∷ ps) rest)

-- round a loop they may be begun with its last point
steps_begun : (p : Point) (ps : List Point) → IsPermutation (contour_steps (ps ++ p ∷ [])) (steps_to p (p ∷ ps))
steps_begun p [] = IsPermutation-refl (steps_to p (p ∷ []))
steps_begun p (q ∷ ps) =
    subst (λ es. IsPermutation es (steps_to p (p ∷ q ∷ ps))) (sym (steps_apart q p (q ∷ ps) []))
    (IsPermutation-to_front (steps_to p (q ∷ ps)) (record { a = p; b = q }))

-- a contour that comes back to a point is the contour without what lies between, and that as a loop
parted : (front loop rest : List Point) (p : Point)
    → IsPermutation (contour_steps (front ++ p ∷ (loop ++ p ∷ rest))) (contour_steps (loop ++ p ∷ []) ++ contour_steps (front ++ p ∷ rest))
parted front loop rest p =
    subst (λ es. IsPermutation es (contour_steps (loop ++ p ∷ []) ++ contour_steps (front ++ p ∷ rest))) (sym (all front))
    (subst (λ es. IsPermutation (a ++ (b ++ z front)) (contour_steps (loop ++ p ∷ []) ++ es)) (sym (left front))
    (IsPermutation-trans (a ++ (b ++ z front)) (b ++ (a ++ z front)) (contour_steps (loop ++ p ∷ []) ++ (a ++ z front))
    (subst (λ es. IsPermutation es (b ++ (a ++ z front))) (append_assoc a b (z front))
    (subst (λ es. IsPermutation ((a ++ b) ++ z front) es) (append_assoc b a (z front))
    (IsPermutation-append_left (z front) (a ++ b) (b ++ a) (IsPermutation-append_comm a b))))
    (IsPermutation-append_left (a ++ z front) b (contour_steps (loop ++ p ∷ [])) (IsPermutation-sym (contour_steps (loop ++ p ∷ [])) b
    (steps_begun p loop)))))
  where
    a : List Edge
    a = steps_to p front

    b : List Edge
    b = steps_to p (p ∷ loop)

    first : List Point → Point
    first [] = p
    first (q ∷ qs) = q

    z : List Point → List Edge
    z ps = steps_to (first ps) (p ∷ rest)

    left : (ps : List Point) → contour_steps (ps ++ p ∷ rest) ≡ steps_to p ps ++ z ps
    left [] = refl
    left (q ∷ ps) = steps_apart q p (q ∷ ps) rest

    all : (ps : List Point) → contour_steps (ps ++ p ∷ (loop ++ p ∷ rest)) ≡ steps_to p ps ++ (b ++ z ps)
    all [] = steps_apart p p (p ∷ loop) rest
    all (q ∷ ps) = steps_apart q p (q ∷ ps) (loop ++ p ∷ rest) ∙ ap (λ es. steps_to p (q ∷ ps) ++ es) (steps_apart q p (p ∷ loop) rest)

-- where a point is kept, it parts what is kept
pub record Parts (p : Point) (kept : List Point) (i : ℕ) : Type 0 where
  pub front : List Point
  pub up_to : take (i + 1) kept ≡ front ++ p ∷ []
  pub all : kept ≡ front ++ p ∷ drop (i + 1) kept

pub parts_at : (p : Point) (kept : List Point) (i : ℕ) → place_of p kept ≡ Some i → Parts p kept i
parts_at p [] i e = absurd (cc)
parts_at p (r ∷ rs) i e = by (same_point p r) refl (place_of p rs) (λ j h. parts_at p rs j h) e
  where
    by : (b : Bool) → same_point p r ≡ b → (o : Option ℕ) → ((j : ℕ) → o ≡ Some j → Parts p rs j) → cond b (Some 0) (one_later o) ≡ Some i
        → Parts p (r ∷ rs) i
    by true s o more e =
        let z : 0 ≡ i = cc in
        let here : r ≡ p = sym (same_point_is p r s) in
        subst (Parts p (r ∷ rs)) z (record { front = []; up_to = ap (λ q. q ∷ []) here; all = ap (λ q. q ∷ rs) here })
    by false s None more e = absurd (cc)
    by false s (Some j) more e =
        let z : suc j ≡ i = cc in
        let parts = more j refl in
        let next : suc j + 1 ≡ suc (j + 1) = omega arith in
        subst (Parts p (r ∷ rs)) z (record {
          front = r ∷ parts.front;
          up_to = ap (λ n. take n (r ∷ rs)) next ∙ ap (λ ps. r ∷ ps) parts.up_to;
          all = ap (λ ps. r ∷ ps) parts.all ∙ ap (λ n. r ∷ (parts.front ++ p ∷ drop n (r ∷ rs))) (sym next);
        })

-- the loops from here on keep the steps of what is kept and the rest
pub steps_stay : (rest kept : List Point) → IsPermutation (contour_steps (kept ++ rest)) (flat_map contour_steps (loops_from kept rest))
steps_stay [] kept =
    subst (λ ps. IsPermutation (contour_steps ps) (flat_map contour_steps (kept ∷ []))) (sym (append-nil kept))
    (subst (IsPermutation (contour_steps kept)) (sym (append-nil (contour_steps kept))) (IsPermutation-refl (contour_steps kept)))
steps_stay (p ∷ rest) kept = by (place_of p kept) refl (λ ks. steps_stay rest ks)
  where
    by : (o : Option ℕ) → place_of p kept ≡ o → ((ks : List Point) → IsPermutation (contour_steps (ks ++ rest)) (flat_map contour_steps (loops_from ks rest)))
        → IsPermutation (contour_steps (kept ++ p ∷ rest)) (flat_map contour_steps (loops_from kept (p ∷ rest)))
    by None e more =
        subst (λ ls. IsPermutation (contour_steps (kept ++ p ∷ rest)) (flat_map contour_steps ls)) (sym (goes_on kept p rest e))
        (subst (λ ps. IsPermutation (contour_steps ps) (flat_map contour_steps (loops_from (kept ++ p ∷ []) rest))) (append_assoc kept
        (p ∷ []) rest) (more (kept ++ p ∷ [])))
    by (Some i) e more =
        subst (λ ls. IsPermutation (contour_steps (kept ++ p ∷ rest)) (flat_map contour_steps ls)) (sym (cuts_out kept p rest i e))
        (subst (λ ps. IsPermutation (contour_steps ps) (contour_steps loop ++ later)) (sym whole)
        (IsPermutation-trans (contour_steps (parts.front ++ p ∷ (behind ++ p ∷ rest))) (contour_steps loop ++ contour_steps
        (parts.front ++ p ∷ rest)) (contour_steps loop ++ later)
        (parted parts.front behind rest p)
        (IsPermutation-append_right (contour_steps loop) (contour_steps (parts.front ++ p ∷ rest)) later (subst (λ ps. IsPermutation
        (contour_steps ps) later) left (more (take (i + 1) kept))))))
      where
        parts : Parts p kept i
        parts = parts_at p kept i e

        behind : List Point
        behind = drop (i + 1) kept

        loop : List Point
        loop = behind ++ p ∷ []

        later : List Edge
        later = flat_map contour_steps (loops_from (take (i + 1) kept) rest)

        left : take (i + 1) kept ++ rest ≡ parts.front ++ p ∷ rest
        left = ap (λ ps. ps ++ rest) parts.up_to ∙ append_assoc parts.front (p ∷ []) rest

        whole : kept ++ p ∷ rest ≡ parts.front ++ p ∷ (behind ++ p ∷ rest)
        whole = ap (λ ps. ps ++ p ∷ rest) parts.all ∙ append_assoc parts.front (p ∷ behind) (p ∷ rest)
