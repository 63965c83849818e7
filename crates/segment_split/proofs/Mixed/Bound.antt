-- How many pairs the first pass over mixed edges looks at, of each kind.
use Rattle.std.specs.Prelude.{◌≡◌, ◌≤◌, ◌+◌, ◌&&◌, ℕ, Bool, true, false, not, cond, List, [], ◌∷◌, filter, count_by}
use Rattle.std.proofs.Common.{refl, ap, ◌∙◌, arith}
use Rattle.std.proofs.lemmas.List.Sums.{sum_by-cons}
use Rattle.plane_base.specs.Plane.{Edge}
use Rattle.segment_split.specs.StepBounds.{pairs_by}

-- of those that are kept so many pass the test as pass both
count_kept : {X : Type 0} (p test : X → Bool) (xs : List X) → count_by test (filter p xs) ≡ count_by (λ x. p x && test x) xs
count_kept p test [] = refl
count_kept {X} p test (x ∷ xs) = by (p x) refl (count_kept p test xs)
  where
    all : count_by (λ x. p x && test x) (x ∷ xs) ≡ cond (p x && test x) 1 0 + count_by (λ x. p x && test x) xs
    all = sum_by-cons (λ x. cond (p x && test x) 1 0) x xs

    by : (b : Bool) → p x ≡ b → count_by test (filter p xs) ≡ count_by (λ x. p x && test x) xs
        → count_by test (cond b (x ∷ filter p xs) (filter p xs)) ≡ count_by (λ x. p x && test x) (x ∷ xs)
    by true e rest =
        let kept = sum_by-cons (λ x. cond (test x) 1 0) x (filter p xs) in
        let here = ap {B = ℕ} (λ (b : Bool). cond (b && test x) 1 0) e in
        omega (arith, kept, all, here, rest)
    by false e rest =
        let here = ap {B = ℕ} (λ (b : Bool). cond (b && test x) 1 0) e in
        omega (arith, all, here, rest)

-- no test is passed by none
count_none : {X : Type 0} (test : X → Bool) (xs : List X) → ((x : X) → test x ≡ false) → count_by test xs ≡ 0
count_none test [] h = refl
count_none test (x ∷ xs) h =
    let all = sum_by-cons (λ x. cond (test x) 1 0) x xs in
    let here = ap {B = ℕ} (λ (b : Bool). cond b 1 0) (h x) in
    let rest = count_none test xs h in
    omega (arith, all, here, rest)

-- the pairs of those that are kept
pub pairs_kept : (p : Edge → Bool) (test : Edge → Edge → Bool) (xs : List Edge) → pairs_by test (filter p xs) ≡ pairs_by (λ s t. (p s && p t) && test s t) xs
pairs_kept p test [] = refl
pairs_kept p test (x ∷ xs) = by (p x) refl (pairs_kept p test xs)
  where
    by : (b : Bool) → p x ≡ b → pairs_by test (filter p xs) ≡ pairs_by (λ s t. (p s && p t) && test s t) xs
        → pairs_by test (cond b (x ∷ filter p xs) (filter p xs)) ≡ count_by (λ t. (p x && p t) && test x t) xs + pairs_by (λ s t. (p s && p t) && test s t) xs
    by true e rest =
        let kept = count_kept p (test x) xs in
        let same : count_by (λ t. (p x && p t) && test x t) xs ≡ count_by (λ t. p t && test x t) xs = ap {B = ℕ} (λ (b : Bool). count_by (λ t. (b && p t) && test x t) xs) e in
        omega (arith, kept, same, rest)
    by false e rest =
        let none : count_by (λ t. (p x && p t) && test x t) xs ≡ 0 =
        ap {B = ℕ} (λ (b : Bool). count_by (λ t. (b && p t) && test x t) xs) e ∙ count_none (λ t. (false && p t) && test x t) xs (λ t. refl) in
        omega (arith, none, rest)

-- Where no pair passes both of two tests, and what passes one passes a third, no more pairs pass the two than pass that.
count_together : {X : Type 0} (f g h : X → Bool) → ((x : X) → cond (f x) 1 0 + cond (g x) 1 0 ≤ cond (h x) 1 0) → (xs : List X) → count_by f xs + count_by g xs ≤ count_by h xs
count_together f g h each [] = omega arith
count_together f g h each (x ∷ xs) =
    let one = sum_by-cons (λ x. cond (f x) 1 0) x xs in
    let other = sum_by-cons (λ x. cond (g x) 1 0) x xs in
    let all = sum_by-cons (λ x. cond (h x) 1 0) x xs in
    let here = each x in
    let rest = count_together f g h each xs in
    omega (arith, one, other, all, here, rest)

pub pairs_together : (f g h : Edge → Edge → Bool) → ((s t : Edge) → cond (f s t) 1 0 + cond (g s t) 1 0 ≤ cond (h s t) 1 0) → (xs : List Edge)
    → pairs_by f xs + pairs_by g xs ≤ pairs_by h xs
pairs_together f g h each [] = omega arith
pairs_together f g h each (x ∷ xs) =
    let here = count_together (f x) (g x) (h x) (each x) xs in
    let rest = pairs_together f g h each xs in
    omega (arith, here, rest)

-- pairs with one that isn't kept, and pairs of those that are
pub slanted_and_kept : (p : Edge → Bool) (test : Edge → Edge → Bool) (xs : List Edge)
    → pairs_by (λ s t. not (p s && p t) && test s t) xs + pairs_by test (filter p xs) ≤ pairs_by test xs
slanted_and_kept p test xs =
    let kept = pairs_kept p test xs in
    let both = pairs_together (λ s t. not (p s && p t) && test s t) (λ s t. (p s && p t) && test s t) test (λ s t. each (p s && p t) (test s t)) xs in
    omega (arith, kept, both)
  where
    each : (b c : Bool) → cond (not b && c) 1 0 + cond (b && c) 1 0 ≤ cond c 1 0
    each true true = omega arith
    each true false = omega arith
    each false true = omega arith
    each false false = omega arith
