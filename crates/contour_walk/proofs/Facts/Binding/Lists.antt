-- Elements of lists that are filtered, mapped and joined, and single terms of sums.
use Rattle.std.proofs.Common.{◌≡◌, ◌<◌, ◌≤◌, length, Bool, true, false, cond, List, [], ◌∷◌, ◌++◌, map, filter, flat_map, Contains, ◌⊎◌, inl, inr, ℤ, pos, ◌+ℤ◌, ◌≤ℤ◌, ◌<ℤ◌, int_lt, refl, sym, ap, ◌∙◌, subst, arith}
use Rattle.std.proofs.lemmas.Int.{ints}
use Rattle.std.proofs.lemmas.Bool.{false≢true}
use Rattle.std.proofs.lemmas.List.Elements.{All-contains, All-contains_itself, All-filter, filter_passes, Contains-append_left, Contains-append_right, Contains-append_cases}
use Rattle.plane_base.specs.Totals.{total}
use Rattle.plane_base.proofs.Facts.Lists.Totals.{total_not_negative}
use Rattle.segment_arrangement.proofs.Facts.ColumnPlaces.{lt_tells, lt_tells_not}
use Rattle.segment_arrangement.proofs.Facts.GreatestEntry.{Contains-head, Contains-later, Contains-cases}

-- ---- elements

module _ {A : Type 0} where
  pub filter_holds : (test : A → Bool) (xs : List A) (x : A) → Contains xs x → test x ≡ true → Contains (filter test xs) x
  filter_holds test [] x here e = absurd (omega (arith, here.1))
  filter_holds test (y ∷ xs) x here e = by (test y) refl (Contains-cases y xs x here) (λ later. filter_holds test xs x later e)
    where
      by : (b : Bool) → test y ≡ b → (y ≡ x) ⊎ Contains xs x → (Contains xs x → Contains (filter test xs) x) → Contains (cond b (y ∷ filter test xs) (filter test xs)) x
      by true f (inl same) step = subst (λ z. Contains (y ∷ filter test xs) z) same (Contains-head y (filter test xs))
      by true f (inr later) step = Contains-later y (filter test xs) x (step later)
      by false f (inl same) step = absurd (false≢true (sym f ∙ (ap test same ∙ e)))
      by false f (inr later) step = step later

  pub filter_tells : (test : A → Bool) (xs : List A) (x : A) → Contains (filter test xs) x → Contains xs x × (test x ≡ true)
  filter_tells test xs x here = (
    All-contains (Contains xs) (filter test xs) x (All-filter test (Contains xs) xs (All-contains_itself xs)) here,
    All-contains (λ y. test y ≡ true) (filter test xs) x (filter_passes test xs) here,
  )

  module _ {B : Type 0} where
    pub map_tells : (f : A → B) (xs : List A) (y : B) → Contains (map f xs) y → (x : A) × Contains xs x × (f x ≡ y)
    map_tells f [] y here = absurd (omega (arith, here.1))
    map_tells f (x ∷ xs) y here = by (Contains-cases (f x) (map f xs) y here) (map_tells f xs y)
      where
        by : (f x ≡ y) ⊎ Contains (map f xs) y → (Contains (map f xs) y → (x : A) × Contains xs x × (f x ≡ y)) → (z : A) × Contains (x ∷ xs) z × (f z ≡ y)
        by (inl e) rest = (x, Contains-head x xs, e)
        by (inr later) rest = let h = rest later in (h.0, Contains-later x xs h.0 h.1, h.2)

    pub flat_holds : (f : A → List B) (xs : List A) (x : A) (y : B) → Contains xs x → Contains (f x) y → Contains (flat_map f xs) y
    flat_holds f [] x y here among = absurd (omega (arith, here.1))
    flat_holds f (z ∷ xs) x y here among = by (Contains-cases z xs x here) (λ later. flat_holds f xs x y later among)
      where
        by : (z ≡ x) ⊎ Contains xs x → (Contains xs x → Contains (flat_map f xs) y) → Contains (f z ++ flat_map f xs) y
        by (inl same) rest = Contains-append_left (f z) (flat_map f xs) y (subst (λ u. Contains (f u) y) (sym same) among)
        by (inr later) rest = Contains-append_right (f z) (flat_map f xs) y (rest later)

    pub flat_tells : (f : A → List B) (xs : List A) (y : B) → Contains (flat_map f xs) y → (x : A) × Contains xs x × Contains (f x) y
    flat_tells f [] y here = absurd (omega (arith, here.1))
    flat_tells f (z ∷ xs) y here = by (Contains-append_cases (f z) (flat_map f xs) y here) (flat_tells f xs y)
      where
        by : Contains (f z) y ⊎ Contains (flat_map f xs) y → (Contains (flat_map f xs) y → (x : A) × Contains xs x × Contains (f x) y) → (x : A) × Contains (z ∷ xs) x × Contains (f x) y
        by (inl h) rest = (z, Contains-head z xs, h)
        by (inr later) rest = let h = rest later in (h.0, Contains-later z xs h.0 h.1, h.2)

-- ---- how many pass a test

module _ {A : Type 0} (p q : A → Bool) where
  no_more : (xs : List A) → ((x : A) → Contains xs x → p x ≡ true → q x ≡ true) → length (filter p xs) ≤ length (filter q xs)
  no_more [] h = omega arith
  no_more (y ∷ xs) h = by (p y) (q y) (h y (Contains-head y xs)) (no_more xs (λ x here. h x (Contains-later y xs x here)))
    where
      by : (b c : Bool) → (b ≡ true → c ≡ true) → length (filter p xs) ≤ length (filter q xs) → length (cond b (y ∷ filter p xs) (filter p xs)) ≤ length (cond c (y ∷ filter q xs) (filter q xs))
      by true true k l = omega (arith, l)
      by true false k l = absurd (false≢true (k refl))
      by false true k l = omega (arith, l)
      by false false k l = l

  -- fewer pass p than q, where all that pass p pass q, and one passes q alone
  pub fewer : (xs : List A) (x : A) → ((x : A) → Contains xs x → p x ≡ true → q x ≡ true) → Contains xs x → p x ≡ false → q x ≡ true → length (filter p xs) < length (filter q xs)
  fewer [] x h here e f = absurd (omega (arith, here.1))
  fewer (y ∷ xs) x h here e f = by (Contains-cases y xs x here) (λ later. fewer xs x (λ z k. h z (Contains-later y xs z k)) later e f)
    where
      rest : length (filter p xs) ≤ length (filter q xs)
      rest = no_more xs (λ z k. h z (Contains-later y xs z k))

      first : (b c : Bool) → b ≡ false → c ≡ true → length (cond b (y ∷ filter p xs) (filter p xs)) < length (cond c (y ∷ filter q xs) (filter q xs))
      first true c k l = absurd (false≢true (sym k))
      first false true k l = omega (arith, rest)
      first false false k l = absurd (false≢true l)

      more : (b c : Bool) → (b ≡ true → c ≡ true) → length (filter p xs) < length (filter q xs) → length (cond b (y ∷ filter p xs) (filter p xs)) < length (cond c (y ∷ filter q xs) (filter q xs))
      more true true k l = omega (arith, l)
      more true false k l = absurd (false≢true (k refl))
      more false true k l = omega (arith, l)
      more false false k l = l

      by : (y ≡ x) ⊎ Contains xs x → (Contains xs x → length (filter p xs) < length (filter q xs)) → length (filter p (y ∷ xs)) < length (filter q (y ∷ xs))
      by (inl same) step = first (p y) (q y) (ap p same ∙ e) (ap q same ∙ f)
      by (inr later) step = more (p y) (q y) (h y (Contains-head y xs)) (step later)

pub all_pass : {A : Type 0} (xs : List A) → filter (λ x. true) xs ≡ xs
all_pass [] = refl
all_pass (x ∷ xs) = ap (λ ys. x ∷ ys) (all_pass xs)

-- ---- sums

module _ {A : Type 0} (f : A → ℤ) where
  -- no term is more than the sum, where none is below 0
  pub term_of_total : (xs : List A) (x : A) → ((x : A) → pos 0 ≤ℤ f x) → Contains xs x → f x ≤ℤ total f xs
  term_of_total [] x h here = absurd (omega (arith, here.1))
  term_of_total (y ∷ xs) x h here = by (Contains-cases y xs x here) (term_of_total xs x h)
    where
      first : (a t : ℤ) → pos 0 ≤ℤ t → a ≤ℤ (a +ℤ t)
      first a t l = omega (arith, ints)

      rest : (a b t : ℤ) → pos 0 ≤ℤ b → a ≤ℤ t → a ≤ℤ (b +ℤ t)
      rest a b t l m = omega (arith, ints)

      by : (y ≡ x) ⊎ Contains xs x → (Contains xs x → f x ≤ℤ total f xs) → f x ≤ℤ (f y +ℤ total f xs)
      by (inl same) step = subst (λ z. f z ≤ℤ (f y +ℤ total f xs)) same (first (f y) (total f xs) (total_not_negative f xs h))
      by (inr later) step = rest (f x) (f y) (total f xs) (h y) (step later)

  -- a sum above 0 has a term above 0
  pub term_above : (xs : List A) → pos 0 <ℤ total f xs → (x : A) × Contains xs x × (pos 0 <ℤ f x)
  term_above [] l = absurd (omega (arith, ints, l))
  term_above (y ∷ xs) l = by (int_lt (pos 0) (f y)) refl (term_above xs)
    where
      rest : (a t : ℤ) → pos 0 <ℤ (a +ℤ t) → a ≤ℤ pos 0 → pos 0 <ℤ t
      rest a t l m = omega (arith, ints)

      by : (b : Bool) → int_lt (pos 0) (f y) ≡ b → (pos 0 <ℤ total f xs → (x : A) × Contains xs x × (pos 0 <ℤ f x)) → (x : A) × Contains (y ∷ xs) x × (pos 0 <ℤ f x)
      by true e step = (y, Contains-head y xs, lt_tells (pos 0) (f y) e)
      by false e step = let h = step (rest (f y) (total f xs) l (lt_tells_not (pos 0) (f y) e)) in (h.0, Contains-later y xs h.0 h.1, h.2)
