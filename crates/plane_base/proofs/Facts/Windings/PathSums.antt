-- Sums along the steps of a path.
use Rattle.std.proofs.Common.{◌≡◌, refl, sym, ap, ◌∙◌, ℕ, ◌+◌, ◌-◌, ◌<◌, ◌≤◌, List, [], ◌∷◌, ◌++◌, map, drop, length, get_or, ℤ, pos, ◌+ℤ◌, arith}
use Rattle.std.proofs.lemmas.Int.{ints}
use Rattle.std.proofs.lemmas.List.{length-map, get_or-map, length-drop}
use Rattle.plane_base.specs.Plane.{Point}
use Rattle.plane_base.specs.Given.{closed}
use Rattle.plane_base.proofs.Facts.Maps.Laying.{path_sum}
use Rattle.plane_base.proofs.Facts.Lists.Views.{drop-mapped}

added : (a b c s : ℤ) → b ≡ c +ℤ s → a +ℤ b ≡ (a +ℤ c) +ℤ s
added a b c s e = omega (arith, ints)

one_step : (s : ℤ) → s +ℤ pos 0 ≡ pos 0 +ℤ s
one_step s = omega (arith, ints)

exchanged : (a b c : ℤ) → a ≡ b +ℤ c → c +ℤ b ≡ a
exchanged a b c e = omega (arith, ints)

module _ (g : Point → Point → ℤ) where
  -- one more step at the end of a path
  path_sum-push : (xs : List Point) (x end : Point) → path_sum g ((x ∷ xs) ++ end ∷ []) ≡ path_sum g (x ∷ xs) +ℤ g (get_or (x ∷ xs) (length xs) end) end
  path_sum-push [] x end = one_step (g x end)
  path_sum-push (y ∷ ys) x end = added (g x y) _ _ _ (path_sum-push ys y end)

  -- the sum over a contour is that over its path, with the step that closes it
  pub path_sum_closed : {X : Type 0} (f : X → Point) (xs : List X) (last first : X) → 0 < length xs → last ≡ get_or xs (length xs - 1) last → first ≡ get_or xs 0 first → g (f last) (f first) +ℤ path_sum g (map f xs) ≡ path_sum g (closed (map f xs))
  path_sum_closed f [] last first h e k = absurd (omega arith)
  path_sum_closed f (x ∷ xs) last first h e k =
      let n : length (x ∷ xs) - 1 ≡ length (map f xs) = omega (arith, length-map xs f) in
      let there : get_or (map f (x ∷ xs)) (length (map f xs)) (f x) ≡ f last =
      get_or-map f (x ∷ xs) (length (map f xs)) last (f x) (omega (arith, length-map xs f)) ∙ ap f (rw (← n) (sym e)) in
      let closing : path_sum g ((f x ∷ map f xs) ++ f x ∷ []) ≡ path_sum g (f x ∷ map f xs) +ℤ g (f last) (f x) = path_sum-push (map f xs) (f x) (f x) ∙ ap (λ p. path_sum g (f x ∷ map f xs) +ℤ g p (f x)) there in
      rw k (exchanged (path_sum g ((f x ∷ map f xs) ++ f x ∷ [])) (path_sum g (f x ∷ map f xs)) (g (f last) (f x)) closing)

  -- the step to the point at i comes off the front of what is left
  pub path_sum-next : {X : Type 0} (f : X → Point) (xs : List X) (i : ℕ) (from to : X) → 0 < i → i < length xs → from ≡ get_or xs (i - 1) from → to ≡ get_or xs i to → path_sum g (drop (i - 1) (map f xs)) ≡ g (f from) (f to) +ℤ path_sum g (drop i (map f xs))
  path_sum-next f xs i from to p h e k =
      let here : drop (i - 1) (map f xs) ≡ f from ∷ drop (i - 1 + 1) (map f xs) = drop-mapped f xs (i - 1) from (omega arith) e in
      let same : i - 1 + 1 ≡ i = omega arith in
      let next : drop i (map f xs) ≡ f to ∷ drop (i + 1) (map f xs) = drop-mapped f xs i to h k in
      rw (here, same, next) refl

  -- nothing is left of a path at its last point
  pub path_sum-all : (ps : List Point) (i : ℕ) → i ≡ length ps → path_sum g (drop (i - 1) ps) ≡ pos 0
  path_sum-all ps i e = short (drop (i - 1) ps) (omega (arith, length-drop (i - 1) ps))
    where
      short : (qs : List Point) → length qs ≤ 1 → path_sum g qs ≡ pos 0
      short [] h = refl
      short (q ∷ []) h = refl
      short (q ∷ r ∷ qs) h = absurd (omega arith)
