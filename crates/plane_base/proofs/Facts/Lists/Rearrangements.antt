-- A fold whose steps can change places is the same over a list in any order.
use Rattle.std.proofs.Common.{◌≡◌, ℕ, zero, suc, ◌<◌, ◌⊎◌, List, [], ◌∷◌, length, get_or, set, IsPermutation, inl, inr, refl, sym, ap, ◌∙◌, arith}
use Rattle.std.specs.List.{swap}
use Rattle.std.proofs.lemmas.Bool.{cases_order}
use Rattle.std.proofs.lemmas.List.{set-get_or, set_comm}
use Rattle.std.proofs.Math.Seq.{set-set}
use Rattle.std.proofs.lemmas.List.Sorted.{IsPermutation-keeps}

swap_same : {X : Type 0} (xs : List X) (i : ℕ) → swap xs i i ≡ xs
swap_same [] i = refl
swap_same (a ∷ xs) i = set-set (a ∷ xs) i (get_or (a ∷ xs) i a) (get_or (a ∷ xs) i a) ∙ set-get_or (a ∷ xs) i a

swap_other_way : {X : Type 0} (xs : List X) (i j : ℕ) → (i ≡ j → ⊥) → swap xs i j ≡ swap xs j i
swap_other_way [] i j h = refl
swap_other_way (a ∷ xs) i j h = set_comm (a ∷ xs) i j (get_or (a ∷ xs) j a) (get_or (a ∷ xs) i a) h

module _ {X B : Type 0} (fold : List X → B) (step : X → B → B) (by_step : (x : X) (xs : List X) → fold (x ∷ xs) ≡ step x (fold xs)) (exchange : (x y : X) (b : B) → step x (step y b) ≡ step y (step x b)) where
  -- x and the element at i change places
  exchanged_with : (xs : List X) (i : ℕ) (x y : X) → i < length xs → step x (fold (set xs i y)) ≡ step y (fold (set xs i x))
  exchanged_with [] i x y h = absurd (omega arith)
  exchanged_with (a ∷ xs) zero x y h =
      ap (step x) (by_step y xs) ∙ exchange x y (fold xs) ∙ ap (step y) (sym (by_step x xs))
  exchanged_with (a ∷ xs) (suc i) x y h =
      ap (step x) (by_step a (set xs i y)) ∙ exchange x a (fold (set xs i y))
      ∙ ap (step a) (exchanged_with xs i x y (omega arith))
      ∙ exchange a y (fold (set xs i x)) ∙ ap (step y) (sym (by_step a (set xs i x)))

  fold_of_exchanged : (xs : List X) (i j : ℕ) (d : X) → i < j → j < length xs → fold (set (set xs i (get_or xs j d)) j (get_or xs i d)) ≡ fold xs
  fold_of_exchanged [] i j d h k = absurd (omega arith)
  fold_of_exchanged (a ∷ xs) zero zero d h k = absurd (omega arith)
  fold_of_exchanged (a ∷ xs) zero (suc j) d h k =
      by_step (get_or xs j d) (set xs j a)
      ∙ exchanged_with xs j (get_or xs j d) a (omega arith)
      ∙ ap (λ l. step a (fold l)) (set-get_or xs j d)
      ∙ sym (by_step a xs)
  fold_of_exchanged (a ∷ xs) (suc i) zero d h k = absurd (omega arith)
  fold_of_exchanged (a ∷ xs) (suc i) (suc j) d h k =
      by_step a (set (set xs i (get_or xs j d)) j (get_or xs i d))
      ∙ ap (step a) (fold_of_exchanged xs i j d (omega arith) (omega arith))
      ∙ sym (by_step a xs)

  fold_of_rising_swap : (xs : List X) (i j : ℕ) → i < j → j < length xs → fold (swap xs i j) ≡ fold xs
  fold_of_rising_swap [] i j h k = absurd (omega arith)
  fold_of_rising_swap (a ∷ xs) i j h k = fold_of_exchanged (a ∷ xs) i j a h k

  fold_of_swap : (xs : List X) (i j : ℕ) → i < length xs → j < length xs → fold (swap xs i j) ≡ fold xs
  fold_of_swap xs i j h k = by (cases_order i j)
    where
      by : (i ≡ j) ⊎ ((i < j) ⊎ (j < i)) → fold (swap xs i j) ≡ fold xs
      by (inl e) = ap (λ k. fold (swap xs i k)) (sym e) ∙ ap fold (swap_same xs i)
      by (inr (inl l)) = fold_of_rising_swap xs i j l k
      by (inr (inr l)) = ap fold (swap_other_way xs i j (λ e. omega arith)) ∙ fold_of_rising_swap xs j i l h

  pub fold_of_permutation : (xs ys : List X) → IsPermutation xs ys → fold ys ≡ fold xs
  fold_of_permutation xs = IsPermutation-keeps xs (λ l. fold l ≡ fold xs) refl (λ l i j h k e. fold_of_swap l i j h k ∙ e)
