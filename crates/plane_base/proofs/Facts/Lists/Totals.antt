-- Laws of `total`.
use Rattle.std.proofs.Common.{if◌then◌else◌, ◌≡◌, ◌+◌, Bool, true, false, List, [], ◌∷◌, ◌++◌, map, filter, flat_map, All, sum_by, IsPermutation, ℤ, pos, ◌+ℤ◌, ◌-ℤ◌, ◌*ℤ◌, neg_ℤ, ◌≤ℤ◌, refl, ap, ◌∙◌, sym, arith}
use Rattle.std.proofs.lemmas.Int.{ints}
use Rattle.std.proofs.lemmas.List.Sorted.{sum_by-IsPermutation}
use Rattle.std.proofs.lemmas.List.Elements.{All-head, All-tail}
use Rattle.std.proofs.lemmas.List.Sums.{sum_by-cons}
use Rattle.std.proofs.Math.IntN.{*ℤ-zero}
use borrow.Author.Differences.{up, down, same_in, sum_is_lem}
use Rattle.plane_base.specs.Totals.{total}
use Rattle.plane_base.proofs.Facts.Numbers.Products.{product_of_sum}

pub total_append : {A : Type 0} (f : A → ℤ) (xs ys : List A) → total f (xs ++ ys) ≡ total f xs +ℤ total f ys
total_append f [] ys = start (total f ys)
  where
    start : (t : ℤ) → t ≡ pos 0 +ℤ t
    start t = omega (arith, ints)
total_append f (x ∷ xs) ys = next (f x) (total f (xs ++ ys)) (total f xs) (total f ys) (total_append f xs ys)
  where
    next : (a s t u : ℤ) → s ≡ t +ℤ u → a +ℤ s ≡ (a +ℤ t) +ℤ u
    next a s t u e = omega (arith, ints)

pub total_pointwise : {A : Type 0} (f g : A → ℤ) (xs : List A) → ((x : A) → f x ≡ g x) → total f xs ≡ total g xs
total_pointwise f g [] e = refl
total_pointwise f g (x ∷ xs) e = ap (λ y. y +ℤ total f xs) (e x) ∙ ap (λ t. g x +ℤ t) (total_pointwise f g xs e)

pub total_zero : {A : Type 0} (f : A → ℤ) (xs : List A) → ((x : A) → f x ≡ pos 0) → total f xs ≡ pos 0
total_zero f [] e = refl
total_zero f (x ∷ xs) e = none (f x) (total f xs) (e x) (total_zero f xs e)
  where
    none : (a t : ℤ) → a ≡ pos 0 → t ≡ pos 0 → a +ℤ t ≡ pos 0
    none a t e h = omega (arith, ints)

pub total_sum : {A : Type 0} (f g : A → ℤ) (xs : List A) → total (λ x. f x +ℤ g x) xs ≡ total f xs +ℤ total g xs
total_sum f g [] = refl
total_sum f g (x ∷ xs) = next (f x) (g x) (total (λ x. f x +ℤ g x) xs) (total f xs) (total g xs) (total_sum f g xs)
  where
    next : (a b s t u : ℤ) → s ≡ t +ℤ u → (a +ℤ b) +ℤ s ≡ (a +ℤ t) +ℤ (b +ℤ u)
    next a b s t u e = omega (arith, ints)

pub total_negated : {A : Type 0} (f : A → ℤ) (xs : List A) → total (λ x. neg_ℤ (f x)) xs ≡ neg_ℤ (total f xs)
total_negated f [] = refl
total_negated f (x ∷ xs) = next (f x) (total (λ x. neg_ℤ (f x)) xs) (total f xs) (total_negated f xs)
  where
    next : (a s t : ℤ) → s ≡ neg_ℤ t → neg_ℤ a +ℤ s ≡ neg_ℤ (a +ℤ t)
    next a s t e = omega (arith, ints)

pub total_difference : {A : Type 0} (f g : A → ℤ) (xs : List A) → total (λ x. f x -ℤ g x) xs ≡ total f xs -ℤ total g xs
total_difference f g xs = total_sum f (λ x. neg_ℤ (g x)) xs ∙ ap (λ t. total f xs +ℤ t) (total_negated g xs)

pub total_scaled : {A : Type 0} (k : ℤ) (f : A → ℤ) (xs : List A) → total (λ x. k *ℤ f x) xs ≡ k *ℤ total f xs
total_scaled k f [] = sym (*ℤ-zero k)
total_scaled k f (x ∷ xs) = ap (λ t. (k *ℤ f x) +ℤ t) (total_scaled k f xs) ∙ sym (product_of_sum k (f x) (total f xs))

pub total_filter : {A : Type 0} (f : A → ℤ) (test : A → Bool) (xs : List A) → total f (filter test xs) ≡ total (λ x. (if test x then f x else pos 0)) xs
total_filter f test [] = refl
total_filter f test (x ∷ xs) = by (test x) (total_filter f test xs)
  where
    skipped : (s t : ℤ) → s ≡ t → s ≡ pos 0 +ℤ t
    skipped s t e = omega (arith, ints)

    by : (passed : Bool) → total f (filter test xs) ≡ total (λ x. (if test x then f x else pos 0)) xs → total f (if passed then x ∷ filter test xs else filter test xs) ≡ (if passed then f x else pos 0) +ℤ total (λ x. (if test x then f x else pos 0)) xs
    by true h = ap (λ t. f x +ℤ t) h
    by false h = skipped (total f (filter test xs)) (total (λ x. (if test x then f x else pos 0)) xs) h

pub total_map : {A B : Type 0} (f : B → ℤ) (g : A → B) (xs : List A) → total f (map g xs) ≡ total (λ x. f (g x)) xs
total_map f g [] = refl
total_map f g (x ∷ xs) = ap (λ t. f (g x) +ℤ t) (total_map f g xs)

pub total_flat_map : {A B : Type 0} (f : B → ℤ) (g : A → List B) (xs : List A) → total f (flat_map g xs) ≡ total (λ x. total f (g x)) xs
total_flat_map f g [] = refl
total_flat_map f g (x ∷ xs) = total_append f (g x) (flat_map g xs) ∙ ap (λ t. total f (g x) +ℤ t) (total_flat_map f g xs)

pub total_not_negative : {A : Type 0} (f : A → ℤ) (xs : List A) → ((x : A) → pos 0 ≤ℤ f x) → pos 0 ≤ℤ total f xs
total_not_negative f [] h = omega (arith, ints)
total_not_negative f (x ∷ xs) h = next (f x) (total f xs) (h x) (total_not_negative f xs h)
  where
    next : (a t : ℤ) → pos 0 ≤ℤ a → pos 0 ≤ℤ t → pos 0 ≤ℤ (a +ℤ t)
    next a t h k = omega (arith, ints)

pub total_monotone : {A : Type 0} (f g : A → ℤ) (xs : List A) → ((x : A) → f x ≤ℤ g x) → total f xs ≤ℤ total g xs
total_monotone f g [] h = omega (arith, ints)
total_monotone f g (x ∷ xs) h = next (f x) (g x) (total f xs) (total g xs) (h x) (total_monotone f g xs h)
  where
    next : (a b t u : ℤ) → a ≤ℤ b → t ≤ℤ u → (a +ℤ t) ≤ℤ (b +ℤ u)
    next a b t u h k = omega (arith, ints)

-- ---- the same of functions that agree on the elements of the list

pub total_pointwise_on : {A : Type 0} (f g : A → ℤ) (xs : List A) → All (λ x. f x ≡ g x) xs → total f xs ≡ total g xs
total_pointwise_on f g [] e = refl
total_pointwise_on f g (x ∷ xs) e =
    ap (λ y. y +ℤ total f xs) (All-head (λ x. f x ≡ g x) x xs e) ∙ ap (λ t. g x +ℤ t) (total_pointwise_on f g xs (All-tail (λ x. f x ≡ g x) x xs e))

pub total_zero_on : {A : Type 0} (f : A → ℤ) (xs : List A) → All (λ x. f x ≡ pos 0) xs → total f xs ≡ pos 0
total_zero_on f xs e = total_pointwise_on f (λ x. pos 0) xs e ∙ total_zero (λ x. pos 0) xs (λ x. refl)

pub total_monotone_on : {A : Type 0} (f g : A → ℤ) (xs : List A) → All (λ x. f x ≤ℤ g x) xs → total f xs ≤ℤ total g xs
total_monotone_on f g [] h = omega (arith, ints)
total_monotone_on f g (x ∷ xs) h =
    next (f x) (g x) (total f xs) (total g xs) (All-head (λ x. f x ≤ℤ g x) x xs h) (total_monotone_on f g xs (All-tail (λ x. f x ≤ℤ g x) x xs h))
  where
    next : (a b t u : ℤ) → a ≤ℤ b → t ≤ℤ u → (a +ℤ t) ≤ℤ (b +ℤ u)
    next a b t u h k = omega (arith, ints)

-- ---- the order of the elements

-- what is added and what is taken away
total_by_parts : {A : Type 0} (f : A → ℤ) (xs : List A) → up (total f xs) + sum_by (λ x. down (f x)) xs ≡ down (total f xs) + sum_by (λ x. up (f x)) xs
total_by_parts f [] = refl
total_by_parts f (x ∷ xs) = rw (sum_by-cons (λ x. down (f x)) x xs, sum_by-cons (λ x. up (f x)) x xs) (omega (arith, total_by_parts f xs, sum_is_lem (f x) (total f xs)))

pub total_permutation : {A : Type 0} (f : A → ℤ) (xs ys : List A) → IsPermutation xs ys → total f ys ≡ total f xs
total_permutation f xs ys h =
    same_in (total f ys) (total f xs) (omega (arith, total_by_parts f xs, total_by_parts f ys, sum_by-IsPermutation (λ x. up (f x)) xs ys h, sum_by-IsPermutation (λ x. down (f x)) xs ys h))
