-- The states of links, laid one after the other over a list of one state.
use Rattle.std.proofs.Common.{◌≡◌, ℕ, suc, ◌+◌, ◌-◌, ◌<◌, List, [], ◌∷◌, ◌++◌, length, get_or, set, take, map, sym, ap, ◌∙◌, arith}
use Rattle.std.specs.Prelude.{replicate}
use Rattle.std.proofs.lemmas.List.{append_assoc, length-map, length-take-le, map_more, set_at}

module _ {X S : Type 0} (f : X → S) (skipped : S) (xs : List X) (i : ℕ) (x : X) (within : i < length xs) (here : x ≡ get_or xs i x) where
  one_more : replicate (length xs - i) skipped ≡ skipped ∷ replicate (length xs - (i + 1)) skipped
  one_more = ap (λ n. replicate n skipped) count
    where
      count : length xs - i ≡ suc (length xs - (i + 1))
      count = omega (arith, within)

  with_next : (s : S) → s ≡ f x → map f (take i xs) ++ s ∷ replicate (length xs - (i + 1)) skipped ≡ map f (take (i + 1) xs) ++ replicate (length xs - (i + 1)) skipped
  with_next s e =
      (λ j. map f (take i xs) ++ (e ∙ ap f here) j ∷ replicate (length xs - (i + 1)) skipped)
      ∙ (sym (append_assoc (map f (take i xs)) (f (get_or xs i x) ∷ []) (replicate (length xs - (i + 1)) skipped))
      ∙ ap (λ ys. ys ++ replicate (length xs - (i + 1)) skipped) (sym (map_more f xs i x within)))

  pub state_set : (ys : List S) (s : S) → ys ≡ map f (take i xs) ++ replicate (length xs - i) skipped → s ≡ f x → set ys i s ≡ map f (take (i + 1) xs) ++ replicate (length xs - (i + 1)) skipped
  state_set ys s are e =
      ap (λ zs. set zs i s) (are ∙ ap (λ zs. map f (take i xs) ++ zs) one_more)
      ∙ (set_at (map f (take i xs)) skipped (replicate (length xs - (i + 1)) skipped) s i (length-map (take i xs) f ∙ length-take-le i xs (omega (arith, within)))
      ∙ with_next s e)
