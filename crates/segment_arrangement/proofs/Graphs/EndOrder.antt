-- Lists that rise strictly, with the same members, are one list.
use Rattle.std.proofs.Common.{◌≡◌, ◌⊎◌, inl, inr, suc, List, [], ◌∷◌, ◌++◌, get_or, Bool, false, All, AllPairs, Contains, IsPermutation, Ordering, Less, Equal, Greater, refl, sym, ap, ◌∙◌, arith}
use Rattle.std.specs.Cmp.{IsTotalOrder}
use Rattle.std.specs.Ordering.{is_lt, is_eq, eq_by_cmp}
use Rattle.std.specs.List.{IsDistinct}
use Rattle.std.specs.List.Sorted.{IsSortedBy}
use Rattle.std.proofs.lemmas.Cmp.{eq_by_cmp_equiv}
use Rattle.std.proofs.lemmas.List.Elements.{All-cons, All-weaker, All-nil, All-contains, recursion_from_All, All-from_recursion}
use Rattle.std.proofs.lemmas.List.Sorted.{sorted_far, ranks_by}
use Rattle.std.proofs.lemmas.Map.Keys.{IsDistinct-IsPermutation}
use Rattle.plane_base.proofs.Facts.Maps.Normal.{AllPairs-nil, AllPairs-cons, AllPairs-head, AllPairs-tail}
use Rattle.plane_base.proofs.Facts.Points.Orders.{greater_from_less, less_from_greater, less_apart}

-- ---- members

abbrev pub Member : {X : Type 0} → X → List X → Type 0
Member x [] = ⊥
Member x (y ∷ ys) = (x ≡ y) ⊎ Member x ys

module _ {X : Type 0} where
  pub member_left : (x : X) (xs ys : List X) → Member x xs → Member x (xs ++ ys)
  member_left x [] ys m = absurd m
  member_left x (y ∷ xs) ys (inl e) = inl e
  member_left x (y ∷ xs) ys (inr m) = inr (member_left x xs ys m)

  pub member_right : (x : X) (xs ys : List X) → Member x ys → Member x (xs ++ ys)
  member_right x [] ys m = m
  member_right x (y ∷ xs) ys m = inr (member_right x xs ys m)

  pub member_either : (x : X) (xs ys : List X) → Member x (xs ++ ys) → Member x xs ⊎ Member x ys
  member_either x [] ys m = inr m
  member_either x (y ∷ xs) ys (inl e) = inl (inl e)
  member_either x (y ∷ xs) ys (inr m) = by (member_either x xs ys m)
    where
      by : Member x xs ⊎ Member x ys → Member x (y ∷ xs) ⊎ Member x ys
      by (inl n) = inl (inr n)
      by (inr n) = inr n

  all_members : (xs : List X) → All (λ z. Member z xs) xs
  all_members [] = All-nil (λ z. Member z [])
  all_members (x ∷ xs) = All-cons (λ z. Member z (x ∷ xs)) x xs (inl refl) (All-weaker (λ z. Member z xs) (λ z. Member z (x ∷ xs)) (λ z m. inr m) xs (all_members xs))

  pub member_from_contains : (xs : List X) (x : X) → Contains xs x → Member x xs
  member_from_contains xs x h = All-contains (λ z. Member z xs) xs x (all_members xs) h

  pub contains_from_member : (xs : List X) (x : X) → Member x xs → Contains xs x
  contains_from_member [] x m = absurd m
  contains_from_member (y ∷ xs) x (inl e) = (0, omega arith, sym e)
  contains_from_member (y ∷ xs) x (inr m) = by (contains_from_member xs x m)
    where
      by : Contains xs x → Contains (y ∷ xs) x
      by (k, l, e) = (suc k, omega (arith, l), e)

-- ---- lists that rise

module _ {K : Type 0} (order : K → K → Ordering) where
  abbrev pub Below : K → List K → Type 0
  Below x [] = Unit {0}
  Below x (y ∷ ys) = (order x y ≡ Less) × Below x ys

  abbrev pub Rises : List K → Type 0
  Rises [] = Unit {0}
  Rises (x ∷ xs) = Below x xs × Rises xs

  pub below_member : (x z : K) (ys : List K) → Below x ys → Member z ys → order x z ≡ Less
  below_member x z [] h m = absurd m
  below_member x z (y ∷ ys) h (inl e) = ap (order x) e ∙ h.0
  below_member x z (y ∷ ys) h (inr m) = below_member x z ys h.1 m

  pub below_all : (x : K) (ys : List K) → ((z : K) → Member z ys → order x z ≡ Less) → Below x ys
  below_all x [] h = tt
  below_all x (y ∷ ys) h = (h y (inl refl), below_all x ys (λ z m. h z (inr m)))

  pub rises_append : (xs ys : List K) → Rises xs → Rises ys → ((x y : K) → Member x xs → Member y ys → order x y ≡ Less) → Rises (xs ++ ys)
  rises_append [] ys h k across = k
  rises_append (x ∷ xs) ys h k across = (below_all x (xs ++ ys) below, rises_append xs ys h.1 k (λ a b m n. across a b (inr m) n))
    where
      by : (z : K) → Member z xs ⊎ Member z ys → order x z ≡ Less
      by z (inl m) = below_member x z xs h.0 m
      by z (inr m) = across x z (inl refl) m

      below : (z : K) → Member z (xs ++ ys) → order x z ≡ Less
      below z m = by z (member_either z xs ys m)

  below_from_all : (x : K) (ys : List K) → All (λ y. order x y ≡ Less) ys → Below x ys
  below_from_all x ys h = below_all x ys (λ z m. All-contains (λ y. order x y ≡ Less) ys z h (contains_from_member ys z m))

  pub rises_from_pairs : (xs : List K) → AllPairs (λ x y. order x y ≡ Less) xs → Rises xs
  rises_from_pairs [] h = tt
  rises_from_pairs (x ∷ xs) h = (below_from_all x xs (AllPairs-head (λ x y. order x y ≡ Less) x xs h), rises_from_pairs xs (AllPairs-tail (λ x y. order x y ≡ Less) x xs h))

  module _ (total : IsTotalOrder order) where
    not_both : {A : Type 0} (x y : K) → order x y ≡ Less → order y x ≡ Less → A
    not_both x y l m = let g = greater_from_less total y x m in absurd (cc)

    pub same_members : (xs ys : List K) → Rises xs → Rises ys → ((z : K) → Member z xs → Member z ys) → ((z : K) → Member z ys → Member z xs) → xs ≡ ys
    same_members [] [] h k f g = refl
    same_members [] (y ∷ ys) h k f g = absurd (g y (inl refl))
    same_members (x ∷ xs) [] h k f g = absurd (f x (inl refl))
    same_members (x ∷ xs) (y ∷ ys) h k f g = λ i. first i ∷ same_members xs ys h.1 k.1 forth back i
      where
        head : (x ≡ y) ⊎ Member x ys → (y ≡ x) ⊎ Member y xs → x ≡ y
        head (inl e) n = e
        head (inr m) (inl e) = sym e
        head (inr m) (inr n) = not_both x y (below_member x y xs h.0 n) (below_member y x ys k.0 m)

        first : x ≡ y
        first = head (f x (inl refl)) (g y (inl refl))

        forth_by : (z : K) → Member z xs → (z ≡ y) ⊎ Member z ys → Member z ys
        forth_by z m (inl e) = absurd (less_apart total x z (below_member x z xs h.0 m) (first ∙ sym e))
        forth_by z m (inr n) = n

        forth : (z : K) → Member z xs → Member z ys
        forth z m = forth_by z m (f z (inr m))

        back_by : (z : K) → Member z ys → (z ≡ x) ⊎ Member z xs → Member z xs
        back_by z m (inl e) = absurd (less_apart total y z (below_member y z ys k.0 m) (sym first ∙ sym e))
        back_by z m (inr n) = n

        back : (z : K) → Member z ys → Member z xs
        back z m = back_by z m (g z (inr m))

    -- ---- sorted lists whose members differ

    abbrev level : K → K → Bool
    level = eq_by_cmp order

    pub distinct_from_rises : (xs : List K) → Rises xs → IsDistinct level xs
    unfolding IsDistinct
    distinct_from_rises [] h = tt
    distinct_from_rises (x ∷ xs) h = (recursion_from_All (λ y. level x y ≡ false) xs (apart x xs h.0), distinct_from_rises xs h.1)
      where
        apart : (x : K) (ys : List K) → Below x ys → All (λ y. level x y ≡ false) ys
        apart x [] h = All-nil (λ y. level x y ≡ false)
        apart x (y ∷ ys) h = All-cons (λ y. level x y ≡ false) y ys (ap is_eq h.0) (apart x ys h.1)

    pairs_from : (xs : List K) → IsDistinct level xs → AllPairs (λ x y. level x y ≡ false) xs
    unfolding IsDistinct
    pairs_from [] h = AllPairs-nil (λ x y. level x y ≡ false)
    pairs_from (x ∷ xs) h = AllPairs-cons (λ x y. level x y ≡ false) x xs (All-from_recursion (λ y. level x y ≡ false) xs h.0) (pairs_from xs h.1)

    less_by : (o p : Ordering) → (p ≡ Greater → o ≡ Less) → is_lt p ≡ false → is_eq p ≡ false → o ≡ Less
    less_by o Less f a b = absurd (cc)
    less_by o Equal f a b = absurd (cc)
    less_by o Greater f a b = f refl

    -- a sorted list rises strictly, where it is a list of different members in another order
    pub rises_sorted : (xs ys : List K) → IsDistinct level xs → IsPermutation xs ys → IsSortedBy (λ x y. is_lt (order x y)) ys → Rises ys
    rises_sorted xs ys apart moved sorted = rises_from_pairs ys pair
      where
        flips : (x y : K) → level x y ≡ level y x
        flips = (eq_by_cmp_equiv total).symm

        differ : AllPairs (λ x y. level x y ≡ false) ys
        differ = pairs_from ys (IsDistinct-IsPermutation level flips xs ys moved apart)

        pair : AllPairs (λ x y. order x y ≡ Less) ys
        pair i j d l m =
            less_by (order (get_or ys i d) (get_or ys j d)) (order (get_or ys j d) (get_or ys i d))
            (less_from_greater total (get_or ys j d) (get_or ys i d))
            (sorted_far (λ x y. is_lt (order x y)) (ranks_by total (λ x. x)) ys sorted i j d (omega (arith, l)) m)
            (flips (get_or ys j d) (get_or ys i d) ∙ differ i j d l m)
