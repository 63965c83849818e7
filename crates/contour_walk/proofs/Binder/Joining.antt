-- Holes joined to given shapes one after another.
use Rattle.std.proofs.Common.{◌≡◌, ◌≢◌, refl, sym, ap, ap₂, ◌∙◌, ℕ, zero, suc, ◌+◌, ◌<◌, ◌≤◌, ◌==◌, ◌⊎◌, inl, inr, Bool, true, false, cond, List, [], ◌∷◌}
use Rattle.std.proofs.Common.{◌++◌, map, take, replicate, length, get_or, append-nil, append_assoc, length-append, arith}
use Rattle.std.specs.Prelude.{Option, Some, None}
use Rattle.std.proofs.Math.ListN.{set}
use Rattle.std.proofs.lemmas.Bool.{eq-eqb, eqb-true}
use Rattle.std.proofs.lemmas.List.{length-map, length-replicate, length-take-le, get_or-map, take_more, map-append, flat_map_more}
use Rattle.plane_base.specs.Plane.{Point}
use Rattle.contour_walk.specs.BindingLaws.{all_contours}
use Rattle.contour_walk.specs.BinderOwners.{IsHole}
use Rattle.contour_walk.specs.JoinedHoles.{as_bound, as_hole, contours_among, shape_numbers, shape_met, shape_of_hole, holes_of, joined_by, joined}

-- ---- a list that grows by one element after another

-- the element at a place, seen
pub seen : {X Y : Type 0} (f : X → Y) (xs : List X) (i : ℕ) (x : X) → i < length xs → x ≡ get_or xs i x → f x ≡ get_or (map f xs) i (f x)
seen f xs i x l at = sym (get_or-map f xs i x (f x) l ∙ ap f (sym at))

pub taken_more : {X Y : Type 0} (f : X → Y) (xs : List X) (i : ℕ) (x : X) → i < length xs → x ≡ get_or xs i x → take (i + 1) (map f xs) ≡ take i (map f xs) ++ f x ∷ []
taken_more f xs i x l at = take_more (map f xs) i (f x) (omega (arith, l, length-map xs f)) ∙ ap (λ y. take i (map f xs) ++ y ∷ []) (sym (seen f xs i x l at))

pub grown : {X Y : Type 0} (f : X → Y) (xs : List X) (i : ℕ) (x : X) (old so_far new : List Y) (y : Y) → i < length xs → x ≡ get_or xs i x
    → so_far ≡ old ++ take i (map f xs) → new ≡ so_far ++ y ∷ [] → y ≡ f x → new ≡ old ++ take (i + 1) (map f xs)
grown f xs i x old so_far new y l at e h same =
    h
    ∙ (ap₂ (λ ys z. ys ++ z ∷ []) e same
    ∙ (append_assoc old (take i (map f xs)) (f x ∷ []) ∙ ap (λ ys. old ++ ys) (sym (taken_more f xs i x l at))))

-- ---- the contours of shapes that grow by one after another

-- all contours of one shape more
pub all_grown : {X : Type 0} (f : X → List (List Point)) (xs : List X) (i : ℕ) (x : X) → i < length xs → x ≡ get_or xs i x
    → map as_bound (all_contours (take (i + 1) (map f xs))) ≡ map as_bound (all_contours (take i (map f xs))) ++ map as_bound (f x)
all_grown f xs i x l at =
    ap (λ ss. map as_bound (all_contours ss)) (taken_more f xs i x l at)
    ∙ (ap (map as_bound) (sym (flat_map_more (λ shape. shape) [] (take i (map f xs)) (f x))) ∙ map-append as_bound (all_contours (take i (map f xs))) (f x))

-- the numbers of one shape more
numbers_with : (n : ℕ) (ss : List (List (List Point))) (s : List (List Point))
    → shape_numbers n (ss ++ s ∷ []) ≡ shape_numbers n ss ++ replicate (length s) (n + length ss)
numbers_with n [] s = append-nil (replicate (length s) n) ∙ ap (λ k. replicate (length s) k) (plain n)
  where
    plain : (n : ℕ) → n ≡ n + 0
    plain n = omega arith
numbers_with n (r ∷ ss) s =
    ap (λ rest. replicate (length r) n ++ rest) (numbers_with (suc n) ss s ∙ ap (λ k. shape_numbers (suc n) ss ++ replicate (length s) k) (up n (length ss)))
    ∙ sym (append_assoc (replicate (length r) n) (shape_numbers (suc n) ss) (replicate (length s) (n + suc (length ss))))
  where
    up : (n k : ℕ) → suc n + k ≡ n + suc k
    up n k = omega arith

pub numbers_grown : {X : Type 0} (f : X → List (List Point)) (xs : List X) (i : ℕ) (x : X) → i < length xs → x ≡ get_or xs i x
    → shape_numbers 0 (take (i + 1) (map f xs)) ≡ shape_numbers 0 (take i (map f xs)) ++ replicate (length (f x)) i
numbers_grown f xs i x l at =
    let few : i ≤ length (map f xs) = omega (arith, l, length-map xs f) in
    ap (shape_numbers 0) (taken_more f xs i x l at)
    ∙ (numbers_with 0 (take i (map f xs)) (f x)
    ∙ ap (λ k. shape_numbers 0 (take i (map f xs)) ++ replicate (length (f x)) k) (omega (arith, length-take-le i (map f xs) few)))

pub many_numbers : (n : ℕ) (ss : List (List (List Point))) → length (shape_numbers n ss) ≡ length (all_contours ss)
many_numbers n [] = refl
many_numbers n (s ∷ ss) =
    let rest = many_numbers (suc n) ss in
    let here = length-replicate (length s) n in
    let new = length-append (replicate (length s) n) (shape_numbers (suc n) ss) in
    let old = length-append s (all_contours ss) in
    omega (arith, rest, here, new, old)

-- ---- one hole more

module _ (owner : ℕ → ℕ) where
  pub none_yet : (m : ℕ) (ss : List (List (List Point))) → joined_by owner [] m ss ≡ ss
  none_yet m [] = refl
  none_yet m (s ∷ ss) = ap₂ (λ t ts. t ∷ ts) (append-nil s) (none_yet (suc m) ss)

  pub many_joined : (holes : List (List Point)) (m : ℕ) (ss : List (List (List Point))) → length (joined_by owner holes m ss) ≡ length ss
  many_joined holes m [] = refl
  many_joined holes m (s ∷ ss) = ap suc (many_joined holes (suc m) ss)

  holes_with : (m n : ℕ) (first : List (List Point)) (h : List Point)
      → holes_of owner m n (first ++ h ∷ []) ≡ holes_of owner m n first ++ cond (owner (n + length first) == m) (h ∷ []) []
  holes_with m n [] h = let same : n ≡ n + 0 = omega arith in ap (λ k. cond (owner k == m) (h ∷ []) []) same
  holes_with m n (g ∷ first) h =
      by (owner n == m) (holes_of owner m (suc n) (first ++ h ∷ [])) (holes_of owner m (suc n) first) (cond (owner (n + length (g ∷ first)) == m) (h ∷ []) [])
      (holes_with m (suc n) first h ∙ ap (λ k. holes_of owner m (suc n) first ++ cond (owner k == m) (h ∷ []) []) up)
    where
      up : suc n + length first ≡ n + length (g ∷ first)
      up = omega arith

      by : (b : Bool) (new old more : List (List Point)) → new ≡ old ++ more → cond b (g ∷ new) new ≡ cond b (g ∷ old) old ++ more
      by true new old more e = ap (λ hs. g ∷ hs) e
      by false new old more e = e

  module _ (first : List (List Point)) (h : List Point) (at : ℕ) (is : owner (length first) ≡ at) where
    more : (m : ℕ) → holes_of owner m zero (first ++ h ∷ []) ≡ holes_of owner m zero first ++ cond (at == m) (h ∷ []) []
    more m =
        let all_of : zero + length first ≡ length first = omega arith in
        holes_with m zero first h ∙ ap (λ k. holes_of owner m zero first ++ cond (k == m) (h ∷ []) []) (ap owner all_of ∙ is)

    -- no shape but the owner's is changed
    same_shape : (m : ℕ) → (at ≡ m → ⊥) → holes_of owner m zero (first ++ h ∷ []) ≡ holes_of owner m zero first
    same_shape m other = more m ∙ (ap (λ b. holes_of owner m zero first ++ cond b (h ∷ []) []) (by (at == m) refl) ∙ append-nil (holes_of owner m zero first))
      where
        by : (b : Bool) → at == m ≡ b → at == m ≡ false
        by true e = absurd (other (eqb-true at m e))
        by false e = e

    elsewhere : (m : ℕ) (ss : List (List (List Point))) → (at < m) ⊎ (m + length ss ≤ at) → joined_by owner (first ++ h ∷ []) m ss ≡ joined_by owner first m ss
    elsewhere m [] l = refl
    elsewhere m (s ∷ ss) l = ap₂ (λ hs rest. (s ++ hs) ∷ rest) (same_shape m (other l)) (elsewhere (suc m) ss (next l))
      where
        other : (at < m) ⊎ (m + length (s ∷ ss) ≤ at) → at ≡ m → ⊥
        other (inl k) e = omega (arith, k, e)
        other (inr k) e = omega (arith, k, e)

        next : (at < m) ⊎ (m + length (s ∷ ss) ≤ at) → (at < suc m) ⊎ (suc m + length ss ≤ at)
        next (inl k) = inl (omega (arith, k))
        next (inr k) = inr (omega (arith, k))

    pub lost_joins : (ss : List (List (List Point))) → length ss ≤ at → joined_by owner (first ++ h ∷ []) zero ss ≡ joined_by owner first zero ss
    lost_joins ss l = elsewhere zero ss (inr (omega (arith, l)))

    pub hole_joins : (m k : ℕ) (ss : List (List (List Point))) → at ≡ m + k → k < length ss
        → joined_by owner (first ++ h ∷ []) m ss ≡ set (joined_by owner first m ss) k (get_or (joined_by owner first m ss) k [] ++ h ∷ [])
    hole_joins m k [] e l = absurd (omega (arith, l))
    hole_joins m zero (s ∷ ss) e l =
        let here : at == m ≡ true = eq-eqb at m (omega (arith, e)) in
        ap₂ (λ t ts. t ∷ ts)
        (ap (λ hs. s ++ hs) (more m ∙ ap (λ b. holes_of owner m zero first ++ cond b (h ∷ []) []) here)
        ∙ sym (append_assoc s (holes_of owner m zero first) (h ∷ [])))
        (elsewhere (suc m) ss (inl (omega (arith, e))))
    hole_joins m (suc k) (s ∷ ss) e l =
        ap₂ (λ hs rest. (s ++ hs) ∷ rest) (same_shape m (λ same. omega (arith, e, same))) (hole_joins (suc m) k ss (omega (arith, e)) (omega (arith, l)))

-- ---- the shape of a hole

all_of : (owner : ℕ → ℕ) → ((n : ℕ) → owner n ≡ zero) → (n : ℕ) (holes : List (List Point)) → holes_of owner zero n holes ≡ holes
all_of owner first n [] = refl
all_of owner first n (h ∷ hs) =
    ap (λ o. cond (o == zero) (h ∷ holes_of owner zero (suc n) hs) (holes_of owner zero (suc n) hs)) (first n)
    ∙ ap (λ rest. h ∷ rest) (all_of owner first (suc n) hs)

-- in the only shape
the_first : (s : List (List Point)) (r : Option ℕ) → shape_met (shape_numbers zero (s ∷ [])) r ≡ zero
the_first s None = refl
the_first s (Some m) = zeros (length s) m
  where
    zeros : (n m : ℕ) → get_or (replicate n zero ++ []) m zero ≡ zero
    zeros zero m = refl
    zeros (suc n) zero = refl
    zeros (suc n) (suc m) = zeros n m

-- with one shape all holes are its own
pub one_has_all : {X : Type 0} (f : X → List (List Point)) (clockwise : Bool) (xs : List X) (x y : X) (holes : List (List Point)) → length xs ≡ 1
    → f y ≡ f (get_or xs 0 x) ++ holes → map f (set xs 0 y) ≡ joined clockwise (map f xs) holes
one_has_all f clockwise [] x y holes one is = absurd (omega (arith, one))
one_has_all f clockwise (z ∷ []) x y holes one is =
    ap (λ s. s ∷ []) (is ∙ ap (λ hs. f z ++ hs) (sym (all_of (shape_of_hole clockwise (f z ∷ []) holes) (λ n. the_first (f z) _) zero holes)))
one_has_all f clockwise (z ∷ w ∷ xs) x y holes one is = absurd (omega (arith, one))

-- neither none nor one
pub several : (n : ℕ) → 0 < n → n ≢ 1 → 2 ≤ n
several zero h k = absurd (omega (arith, h))
several (suc zero) h k = absurd (k refl)
several (suc (suc n)) h k = omega arith

-- the hole's number among all contours
among_holes : (holes : List (List Point)) (n k : ℕ) → k ≡ n → n < length holes → IsHole (map as_hole holes) k
among_holes [] n k e l = absurd (omega (arith, l))
among_holes (h ∷ hs) n zero e l = (as_hole h, refl, refl)
among_holes (h ∷ hs) zero (suc k) e l = absurd (omega (arith, e))
among_holes (h ∷ hs) (suc n) (suc k) e l = among_holes hs n k (omega (arith, e)) (omega (arith, l))

behind_bound : (bound holes : List (List Point)) (n k : ℕ) → k ≡ length bound + n → n < length holes → IsHole (map as_bound bound ++ map as_hole holes) k
behind_bound [] holes n k e l = among_holes holes n k (omega (arith, e)) l
behind_bound (b ∷ bs) holes n zero e l = absurd (omega (arith, e))
behind_bound (b ∷ bs) holes n (suc k) e l = behind_bound bs holes n k (omega (arith, e)) (omega (arith, l))

pub hole_among : (shapes : List (List (List Point))) (holes : List (List Point)) (n k : ℕ) → k ≡ length (all_contours shapes) + n → n < length holes
    → IsHole (contours_among shapes holes) k
hole_among shapes holes n k e l = behind_bound (all_contours shapes) holes n k e l

pub many_among : (shapes : List (List (List Point))) (holes : List (List Point))
    → length (contours_among shapes holes) ≡ length (shape_numbers 0 shapes) + length holes
many_among shapes holes =
    let all = length-append (map as_bound (all_contours shapes)) (map as_hole holes) in
    let bound = length-map (all_contours shapes) as_bound in
    let added = length-map holes as_hole in
    let numbers = many_numbers 0 shapes in
    omega (arith, all, bound, added, numbers)
