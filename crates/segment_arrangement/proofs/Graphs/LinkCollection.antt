-- What a handler collects that takes each segment that passes, and never breaks off.
use Rattle.std.proofs.Common.{◌≡◌, ◌⊎◌, inl, inr, ℕ, ◌+◌, Bool, true, false, cond, List, [], ◌∷◌, ◌++◌, map, filter, sym, ap, ◌∙◌}
use Rattle.std.proofs.lemmas.List.{append_assoc, append-nil}
use Rattle.std.specs.declared.ops.ControlFlow.{ControlFlow}
use Rattle.std.specs.declared.ops.ControlFlow.TheVariants.{Continue, Break}
use Rattle.segment_arrangement.specs.Sweeps.{IsHandled}

module _ {H S O L : Type 0} (handles : H → ℕ → S → ℕ → ControlFlow O (Unit {0}) → H → Type 0) (finishes : H → O → Type 0) (seen : H → List L) (given : O → List L) (passes : ℕ → Bool) (make : S → ℕ → L)
    (step : (h : H) (n : ℕ) (s : S) (fill : ℕ) (flow : ControlFlow O (Unit {0})) (after : H) → handles h n s fill flow after → (flow ≡ Continue tt) × (seen after ≡ seen h ++ cond (passes fill) (make s fill ∷ []) []))
    (end : (h : H) (out : O) → finishes h out → given out ≡ seen h) where
  one : (fill : S → ℕ) (s : S) (rest : List S) (before : List L) (b : Bool)
      → (before ++ cond b (make s (fill s) ∷ []) []) ++ map (λ t. make t (fill t)) (filter (λ t. passes (fill t)) rest)
      ≡ before ++ map (λ t. make t (fill t)) (cond b (s ∷ filter (λ t. passes (fill t)) rest) (filter (λ t. passes (fill t)) rest))
  one fill s rest before true = append_assoc before (make s (fill s) ∷ []) (map (λ t. make t (fill t)) (filter (λ t. passes (fill t)) rest))
  one fill s rest before false = ap (λ xs. xs ++ map (λ t. make t (fill t)) (filter (λ t. passes (fill t)) rest)) (append-nil before)

  pub collected : (fill : S → ℕ) (n : ℕ) (ss : List S) (h : H) (out : O) → IsHandled handles finishes fill n ss h out → given out ≡ seen h ++ map (λ s. make s (fill s)) (filter (λ s. passes (fill s)) ss)
  collected fill n [] h out told = end h out told ∙ sym (append-nil (seen h))
  collected fill n (s ∷ rest) h out told = by (λ after. collected fill (n + 1) rest after out) told
    where
      by : ((after : H) → IsHandled handles finishes fill (n + 1) rest after out → given out ≡ seen after ++ map (λ s. make s (fill s)) (filter (λ s. passes (fill s)) rest))
          → ((after : H) × handles h n s (fill s) (Break out) after) ⊎ ((after : H) × handles h n s (fill s) (Continue tt) after × IsHandled handles finishes fill (n + 1) rest after out)
          → given out ≡ seen h ++ map (λ s. make s (fill s)) (filter (λ s. passes (fill s)) (s ∷ rest))
      by more (inl (after, call)) = let never = (step h n s (fill s) (Break out) after call).0 in absurd (cc)
      by more (inr (after, call, others)) =
          more after others
          ∙ (ap (λ xs. xs ++ map (λ t. make t (fill t)) (filter (λ t. passes (fill t)) rest)) (step h n s (fill s) (Continue tt) after call).1
          ∙ one fill s rest (seen h) (passes (fill s)))
