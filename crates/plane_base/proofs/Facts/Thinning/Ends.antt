-- The steps of thinning at both ends of a list whose first m points are left out: f sees a point of the code.
use Rattle.std.proofs.Common.{◌≡◌, ℕ, ◌+◌, ◌≤◌, List, length, get_or, take, drop, map, pos, sym, ap, ◌∙◌, subst, arith}
use Rattle.std.proofs.lemmas.List.{take_all, drop-map}
use Rattle.plane_base.specs.Plane.{Point, turn}
use Rattle.plane_base.specs.Thinning.{Reaches, IsBare}
use Rattle.plane_base.proofs.Facts.Thinning.Steps.{NoneStraight, none_straight_drop}
use Rattle.plane_base.proofs.Facts.Thinning.Indexes.{reached_last_at, reached_first_at, bare_at}

module _ {X : Type 0} (f : X → Point) where
  -- the whole list as a window
  window : (xs : List X) (m : ℕ) → drop m (map f xs) ≡ map f (drop m (take (length xs) xs))
  window xs m = drop-map f m xs ∙ ap (λ x. map f (drop m x)) (sym (take_all (length xs) xs (omega arith)))

  pub reached_last_from : {c : List Point} (xs : List X) (m i j : ℕ) (first a p : X) → m + 3 ≤ length xs → i + 2 ≡ length xs → j + 1 ≡ length xs → first ≡ get_or xs m first → a ≡ get_or xs i a → p ≡ get_or xs j p → turn (f a) (f p) (f first) ≡ pos 0 → Reaches c (drop m (map f xs)) → Reaches c (drop m (map f (take j xs)))
  reached_last_from {c = c} xs m i j first a p l d e s g k z r =
      subst (Reaches c) (sym (drop-map f m (take j xs))) (reached_last_at f xs m (length xs) i j first a p l (omega arith) d e s g k z (subst (Reaches c) (window xs m) r))

  pub reached_first_from : {c : List Point} (xs : List X) (m k j : ℕ) (p second last : X) → m + 3 ≤ length xs → m + 1 ≡ k → j + 1 ≡ length xs → p ≡ get_or xs m p → second ≡ get_or xs k second → last ≡ get_or xs j last → turn (f last) (f p) (f second) ≡ pos 0 → Reaches c (drop m (map f xs)) → Reaches c (drop k (map f xs))
  reached_first_from {c = c} xs m k j p second last l d e s g q z r =
      subst (Reaches c) (sym (window xs k)) (reached_first_at f xs m k (length xs) j p second last l (omega arith) d e s g q z (subst (Reaches c) (window xs m) r))

  pub bare_from : (xs : List X) (m k i j : ℕ) (first second before last : X) → m + 3 ≤ length xs → m + 1 ≡ k → i + 2 ≡ length xs → j + 1 ≡ length xs → first ≡ get_or xs m first → second ≡ get_or xs k second → before ≡ get_or xs i before → last ≡ get_or xs j last → NoneStraight (map f xs) → (turn (f before) (f last) (f first) ≡ pos 0 → ⊥) → (turn (f last) (f first) (f second) ≡ pos 0 → ⊥) → IsBare (drop m (map f xs))
  bare_from xs m k i j first second before last l d e g s p q r none u v =
      subst IsBare (sym (window xs m)) (bare_at f xs m k (length xs) i j first second before last l (omega arith) d e g s p q r (subst NoneStraight (window xs m) (none_straight_drop m (map f xs) none)) u v)
