-- Lists that tell old edges by a test.
use Rattle.std.specs.Prelude.{◌≡◌, ◌⊎◌, ◌+◌, ◌<◌, ◌≤◌, ℕ, Bool, true, false, nat_lt, List, [], ◌∷◌, ◌++◌, length}
use Rattle.std.proofs.Common.{sym, ap, ◌∙◌, subst, inl, inr, arith}
use Rattle.std.proofs.lemmas.Bool.{cases_lt, cases_order, lt-ltb}
use Rattle.std.proofs.lemmas.List.{get_or_append_left, get_or_push, length_push}
use Rattle.plane_base.specs.Plane.{Edge}
use Rattle.segment_split.specs.MarkLists.{IsAt, IsFilled}
use Rattle.segment_split.specs.Mixed.{TellsOld}
use Rattle.segment_split.specs.Rows.{is_old}
use Rattle.segment_split.proofs.Passes.MarkLists.{at_same}

not_below : (n : ℕ) → nat_lt n n ≡ false
not_below n = grind arith

module _ (old : Edge → Bool) (es : List Edge) where
  -- The list tells of the edges before this one, of which the last, as many as nothing is told for, are old.
  pub record TellsTo (next : List ℕ) (i : ℕ) : Type 0 where
    pub told : (n : ℕ) (t : Edge) → n < length next → IsAt es n t → is_old next n ≡ old t
    pub left : (n : ℕ) (t : Edge) → length next ≤ n → n < i → IsAt es n t → old t ≡ true
    pub short : length next ≤ i

  pub tells_none : TellsTo [] 0
  tells_none = record {
    told = λ n t l at. absurd (omega (arith, l));
    left = λ n t l m at. absurd (omega (arith, m));
    short = omega arith;
  }

  -- one more, which is old
  pub tells_old : (next : List ℕ) (i : ℕ) (s : Edge) → IsAt es i s → old s ≡ true → TellsTo next i → TellsTo next (i + 1)
  tells_old next i s at here h = record {
    told = h.told;
    left = λ n t l m there. by n t l m there (cases_order n i);
    short = let l = h.short in omega (arith, l);
  }
    where
      by : (n : ℕ) (t : Edge) → length next ≤ n → n < i + 1 → IsAt es n t → (n ≡ i) ⊎ ((n < i) ⊎ (i < n)) → old t ≡ true
      by n t l m there (inl e) = ap old (sym (at_same es i s t at (subst (λ n. IsAt es n t) e there))) ∙ here
      by n t l m there (inr (inl c)) = h.left n t l c there
      by n t l m there (inr (inr c)) = absurd (omega (arith, m, c))

  -- where the list is filled up, it tells of all
  pub tells_filled : (next full : List ℕ) (i : ℕ) → length full ≡ i → IsFilled i next full → TellsTo next i → (n : ℕ) (t : Edge) → n < i → IsAt es n t → is_old full n ≡ old t
  tells_filled next full i long filled h n t l at = by (cases_lt n (length next))
    where
      by : (n < length next) ⊎ (length next ≤ n) → is_old full n ≡ old t
      by (inl m) = ap (nat_lt n) (filled.kept n n m) ∙ h.told n t m at
      by (inr m) = ap (nat_lt n) (filled.filled n n m (omega (arith, l, long))) ∙ (lt-ltb n i l ∙ sym (h.left n t m l at))

  -- one more, which is new
  pub tells_new : (next full more : List ℕ) (i : ℕ) (s : Edge) → IsAt es i s → old s ≡ false → length full ≡ i → IsFilled i next full → more ≡ full ++ i ∷ []
      → TellsTo next i → TellsTo more (i + 1)
  tells_new next full more i s at here long filled is h = record {
    told = λ n t l there. subst (λ ns. is_old ns n ≡ old t) (sym is) (by n t (omega (arith, l, longer)) there (cases_order n i));
    left = λ n t l m there. absurd (omega (arith, l, m, longer));
    short = omega (arith, longer);
  }
    where
      longer : length more ≡ i + 1
      longer = let e = ap length is ∙ length_push full i in omega (arith, e, long)

      by : (n : ℕ) (t : Edge) → n < i + 1 → IsAt es n t → (n ≡ i) ⊎ ((n < i) ⊎ (i < n)) → is_old (full ++ i ∷ []) n ≡ old t
      by n t l there (inl e) =
          ap (λ n. is_old (full ++ i ∷ []) n) e
          ∙ (ap (nat_lt i) (get_or_push full i i i long) ∙ (not_below i ∙ (sym here ∙ ap old (at_same es i s t at (subst (λ n. IsAt es n t) e there)))))
      by n t l there (inr (inl c)) =
          ap (nat_lt n) (get_or_append_left full (i ∷ []) n n (omega (arith, c, long))) ∙ tells_filled next full i long filled h n t c there
      by n t l there (inr (inr c)) = absurd (omega (arith, l, c))

  pub tells_all : (next full : List ℕ) → length full ≡ length es → IsFilled (length es) next full → TellsTo next (length es) → TellsOld old es full
  tells_all next full long filled h n t at = tells_filled next full (length es) long filled h n t at.0 at
