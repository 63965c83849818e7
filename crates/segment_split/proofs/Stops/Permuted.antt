-- What entries of a list become, whatever their order.
use Rattle.std.proofs.Common.{◌≡◌, ℕ, zero, suc, ◌<◌, List, [], ◌∷◌, ◌++◌, length, flat_map, get_or, set, swap, IsPermutation, append_assoc, refl, sym, ap, ◌∙◌, subst, arith}
use Rattle.std.proofs.lemmas.List.Sorted.{IsPermutation-refl, IsPermutation-trans, IsPermutation-keeps, IsPermutation-append_left, IsPermutation-append_right, IsPermutation-append_comm}

-- A relation holds between a list and each rearrangement of it if it is reflexive and transitive, goes behind a first element, and
-- over an exchange of the first two.
module _ {X : Type 0} (R : List X → List X → Type 0) (same : (xs : List X) → R xs xs) (behind : (x : X) (xs ys : List X) → R xs ys → R (x ∷ xs) (x ∷ ys))
    (turn : (x y : X) (xs : List X) → R (x ∷ y ∷ xs) (y ∷ x ∷ xs)) (chain : (xs ys zs : List X) → R xs ys → R ys zs → R xs zs) where
  to_front : (l : List X) (j : ℕ) (x d : X) → j < length l → R (x ∷ l) (get_or l j d ∷ set l j x)
  to_front [] j x d h = absurd (omega (arith, h))
  to_front (y ∷ l) zero x d h = turn x y l
  to_front (y ∷ l) (suc j) x d h =
      chain (x ∷ y ∷ l) (y ∷ x ∷ l) (get_or l j d ∷ y ∷ set l j x) (turn x y l)
      (chain (y ∷ x ∷ l) (y ∷ get_or l j d ∷ set l j x) (get_or l j d ∷ y ∷ set l j x) (behind y (x ∷ l) (get_or l j d ∷ set l j x) (to_front l j x d (omega (arith, h)))) (turn y (get_or l j d) (set l j x)))

  exchanged : (l : List X) (i j : ℕ) (d : X) → i < length l → j < length l → R l (set (set l i (get_or l j d)) j (get_or l i d))
  exchanged [] i j d h k = absurd (omega (arith, h))
  exchanged (x ∷ l) zero zero d h k = same (x ∷ l)
  exchanged (x ∷ l) zero (suc j) d h k = to_front l j x d (omega (arith, k))
  exchanged (x ∷ l) (suc i) zero d h k = to_front l i x d (omega (arith, h))
  exchanged (x ∷ l) (suc i) (suc j) d h k = behind x l (set (set l i (get_or l j d)) j (get_or l i d)) (exchanged l i j d (omega (arith, h)) (omega (arith, k)))

  swapped : (l : List X) (i j : ℕ) → i < length l → j < length l → R l (swap l i j)
  swapped [] i j h k = same []
  swapped (x ∷ l) i j h k = exchanged (x ∷ l) i j x h k

  pub along_permutation : (xs ys : List X) → IsPermutation xs ys → R xs ys
  along_permutation xs ys h = IsPermutation-keeps xs (R xs) (same xs) (λ l i j p q k. chain xs l (swap l i j) k (swapped l i j p q)) ys h

pub flat_map_permuted : {X Y : Type 0} (f : X → List Y) (xs ys : List X) → IsPermutation xs ys → IsPermutation (flat_map f xs) (flat_map f ys)
flat_map_permuted {X} f xs ys h =
    along_permutation (λ xs ys. IsPermutation (flat_map f xs) (flat_map f ys)) (λ xs. IsPermutation-refl (flat_map f xs)) (λ x xs ys k. IsPermutation-append_right (f x) (flat_map f xs) (flat_map f ys) k)
    turn (λ xs ys zs k l. IsPermutation-trans (flat_map f xs) (flat_map f ys) (flat_map f zs) k l) xs ys h
  where
    turn : (x y : X) (xs : List X) → IsPermutation (f x ++ (f y ++ flat_map f xs)) (f y ++ (f x ++ flat_map f xs))
    turn x y xs =
        subst (λ l. IsPermutation l (f y ++ (f x ++ flat_map f xs))) (append_assoc (f x) (f y) (flat_map f xs))
        (subst (IsPermutation ((f x ++ f y) ++ flat_map f xs)) (append_assoc (f y) (f x) (flat_map f xs)) (IsPermutation-append_left (flat_map f xs) (f x ++ f y) (f y ++ f x) (IsPermutation-append_comm (f x) (f y))))

pub flat_map_parted : {X Y : Type 0} (f : X → List Y) (xs ys : List X) → flat_map f (xs ++ ys) ≡ flat_map f xs ++ flat_map f ys
flat_map_parted f [] ys = refl
flat_map_parted f (x ∷ xs) ys = ap (λ l. f x ++ l) (flat_map_parted f xs ys) ∙ sym (append_assoc (f x) (flat_map f xs) (flat_map f ys))
