-- Members of lists, by recursion and by places.
use Rattle.std.proofs.Common.{◌≡◌, ℕ, zero, suc, ◌<◌, List, [], ◌∷◌, ◌++◌, map, length, get_or, All, AllPairs, Contains, ◌⊎◌, inl, inr, IsPermutation, refl, ap, arith}
use Rattle.std.proofs.lemmas.List.Elements.{All-nil, All-cons, All-head, All-tail}
use Rattle.std.proofs.lemmas.List.Sorted.{Contains-permutation}
use Rattle.plane_base.proofs.Facts.Maps.Normal.{AllPairs-nil, AllPairs-cons, AllPairs-head, AllPairs-tail}
use Rattle.contour_walk.proofs.Facts.Walks.Turns.{Has}
use Rattle.contour_walk.proofs.Facts.Walks.Rings.{Each, Pairs}

module _ {A : Type 0} where
  pub each_from_all : (P : A → Type 0) (xs : List A) → All P xs → Each P xs
  each_from_all P [] h = tt
  each_from_all P (x ∷ xs) h = (All-head P x xs h, each_from_all P xs (All-tail P x xs h))

  pub pairs_from_all : (R : A → A → Type 0) (xs : List A) → AllPairs R xs → Pairs R xs
  pairs_from_all R [] h = tt
  pairs_from_all R (x ∷ xs) h = (each_from_all (R x) xs (AllPairs-head R x xs h), pairs_from_all R xs (AllPairs-tail R x xs h))

  pub contains_from_has : (xs : List A) (x : A) → Has xs x → Contains xs x
  contains_from_has [] x h = absurd h
  contains_from_has (y ∷ ys) x (inl e) = (0, omega arith, e)
  contains_from_has (y ∷ ys) x (inr k) = let c = contains_from_has ys x k in (suc c.0, omega (arith, c.1), c.2)

  pub has_from_contains : (xs : List A) (x : A) → Contains xs x → Has xs x
  has_from_contains xs x (i, inside, e) = by xs i inside e
    where
      by : (ys : List A) (i : ℕ) → i < length ys → get_or ys i x ≡ x → Has ys x
      by [] i l f = absurd (omega arith)
      by (y ∷ ys) zero l f = inl f
      by (y ∷ ys) (suc i) l f = inr (by ys i (omega arith) f)

  pub has_permutation : (xs ys : List A) (x : A) → IsPermutation xs ys → Has xs x → Has ys x
  has_permutation xs ys x p h = has_from_contains ys x (Contains-permutation xs ys x p (contains_from_has xs x h))

  pub has_append_cases : (xs ys : List A) (x : A) → Has (xs ++ ys) x → Has xs x ⊎ Has ys x
  has_append_cases [] ys x h = inr h
  has_append_cases (y ∷ xs) ys x (inl e) = inl (inl e)
  has_append_cases (y ∷ xs) ys x (inr k) = by (has_append_cases xs ys x k)
    where
      by : Has xs x ⊎ Has ys x → Has (y ∷ xs) x ⊎ Has ys x
      by (inl h) = inl (inr h)
      by (inr h) = inr h

  pub has_map : {B : Type 0} (f : A → B) (xs : List A) (x : A) → Has xs x → Has (map f xs) (f x)
  has_map f [] x h = absurd h
  has_map f (y ∷ ys) x (inl e) = inl (ap f e)
  has_map f (y ∷ ys) x (inr k) = inr (has_map f ys x k)

  pub has_map_from : {B : Type 0} (f : A → B) (xs : List A) (z : B) → Has (map f xs) z → (x : A) × Has xs x × (f x ≡ z)
  has_map_from f [] z h = absurd h
  has_map_from f (y ∷ ys) z (inl e) = (y, inl refl, e)
  has_map_from f (y ∷ ys) z (inr k) = let x = has_map_from f ys z k in (x.0, inr x.1, x.2)

  pub all_from_each : (P : A → Type 0) (xs : List A) → Each P xs → All P xs
  all_from_each P [] h = All-nil P
  all_from_each P (x ∷ xs) h = All-cons P x xs h.0 (all_from_each P xs h.1)

  pub all_pairs_from : (R : A → A → Type 0) (xs : List A) → Pairs R xs → AllPairs R xs
  all_pairs_from R [] h = AllPairs-nil R
  all_pairs_from R (x ∷ xs) h = AllPairs-cons R x xs (all_from_each (R x) xs h.0) (all_pairs_from R xs h.1)
