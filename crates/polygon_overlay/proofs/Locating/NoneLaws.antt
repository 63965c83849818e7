-- What holds of none of a list from a place up to another.
use Rattle.std.proofs.Common.{◌≡◌, ◌⊎◌, inl, inr, ℕ, ◌+◌, ◌<◌, ◌≤◌, Bool, false, List, length, get_or, sym, ap, subst, ◌∙◌, arith}
use Rattle.std.specs.List.{list_any}
use Rattle.std.proofs.lemmas.List.{get_or_default}
use Rattle.std.proofs.lemmas.List.Folds.{list_any_none}
use Rattle.polygon_overlay.specs.Stretches.{NoneBetween}
use Rattle.polygon_overlay.proofs.Locating.LocationLaws.{lt_or_ge}

module _ {A : Type 0} (holds : A → Bool) (xs : List A) where
  pub none_at_first : (first : ℕ) → NoneBetween holds xs first first
  none_at_first first k d h l = absurd (omega (arith, h, l))

  -- one more
  pub none_with_one : (first i : ℕ) (x : A) → i < length xs → x ≡ get_or xs i x → holds x ≡ false → NoneBetween holds xs first i → NoneBetween holds xs first (i + 1)
  none_with_one first i x l at lacks before k d h m = by (lt_or_ge k i)
    where
      here : (d : A) → holds (get_or xs i d) ≡ false
      here d = ap holds (get_or_default xs i d x l ∙ sym at) ∙ lacks

      by : (k < i) ⊎ (i ≤ k) → holds (get_or xs k d) ≡ false
      by (inl n) = before k d h n
      by (inr n) = let same : i ≡ k = omega (arith, m, n) in subst (λ j. holds (get_or xs j d) ≡ false) same (here d)

  -- what holds of none of two runs that follow each other holds of none of both
  pub none_through : (first mid end : ℕ) → NoneBetween holds xs first mid → NoneBetween holds xs mid end → NoneBetween holds xs first end
  none_through first mid end h k i d l m = by (lt_or_ge i mid)
    where
      by : (i < mid) ⊎ (mid ≤ i) → holds (get_or xs i d) ≡ false
      by (inl n) = h i d l n
      by (inr n) = k i d n m

  -- of none of the whole list
  pub none_of_all : (end : ℕ) → length xs ≤ end → NoneBetween holds xs 0 end → list_any holds xs ≡ false
  none_of_all end l none = list_any_none holds xs (λ k d m. none k d (omega arith) (omega (arith, l, m)))
