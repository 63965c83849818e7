-- Redrawing comes to an end, since late passes that mark lower the spread.
use Rattle.std.proofs.Common.{◌≡◌, ℕ, zero, suc, ◌+◌, ◌<◌, ◌≤◌, Bool, true, false, not, List, ◌⊎◌, inl, inr, ⊎_elim, subst, refl, sym, ap, ◌∙◌, arith}
use Rattle.std.proofs.lemmas.Bool.{false≢true, cases_lt}
use Rattle.plane_base.specs.Segments.{MeetsInEnds}
use Rattle.plane_base.specs.Counts.{Counting, Entry, IsNormal}
use Rattle.segment_split.specs.Passes.{early_passes, edges_of, marks_in}
use Rattle.segment_split.specs.Redrawing.{iterate, spread, redrawn, MarksInPass}
use Rattle.segment_split.specs.RedrawLaws.{marks_some, MarksFromTheFirst, IsRedrawing, RedrawsToTheEnd}
use Rattle.segment_split.specs.declared.solver.Precision.{Precision}
use Rattle.segment_split.proofs.Passes.Unmarked.{some_by_test, meets_unmarked, unmarked_meets}
use Rattle.segment_split.proofs.Spread.Falls.{late_passes_lower}
use Rattle.segment_split.proofs.Redrawing.Iterates.{iterate_normal, comes_to_rest}

-- the first number that passes a test
least : (p : ℕ → Bool) (n : ℕ) → p n ≡ true → (m : ℕ) × (p m ≡ true) × ((k : ℕ) → k < m → p k ≡ false)
least p zero h = (zero, h, (λ k l. absurd (omega arith)))
least p (suc n) h = by (p zero) refl (least (λ k. p (suc k)) n h)
  where
    by : (now : Bool) → p zero ≡ now → (m : ℕ) × (p (suc m) ≡ true) × ((k : ℕ) → k < m → p (suc k) ≡ false) → (m : ℕ) × (p m ≡ true) × ((k : ℕ) → k < m → p k ≡ false)
    by true e later = (zero, e, (λ k l. absurd (omega arith)))
    by false e later = (suc later.0, later.1, before)
      where
        before : (k : ℕ) → k < suc later.0 → p k ≡ false
        before zero l = e
        before (suc k) l = later.2 k (omega arith)

module _ {C : Type 0} (kind : Counting C) (precision : Precision) (es : List (Entry C)) (h : IsNormal kind es) where
  -- whether pass n marks
  abbrev marked : ℕ → Bool
  marked n = marks_some (marks_in precision n) (edges_of (iterate kind precision es n))

  marked_tells : (n : ℕ) → marked n ≡ true → MarksInPass kind precision es n
  marked_tells n = (some_by_test (marks_in precision n) (edges_of (iterate kind precision es n))).0

  unmarked_tells : (n : ℕ) → marked n ≡ false → MarksInPass kind precision es n → ⊥
  unmarked_tells n e some = false≢true (sym e ∙ (some_by_test (marks_in precision n) (edges_of (iterate kind precision es n))).1 some)

  meets_after : (n : ℕ) → (MarksInPass kind precision es n → ⊥) → MeetsInEnds (edges_of (iterate kind precision es n))
  meets_after n = unmarked_meets precision n (edges_of (iterate kind precision es n))

  unmarked_by : (n : ℕ) → MeetsInEnds (edges_of (iterate kind precision es n)) → marked n ≡ false
  unmarked_by n meets = by (marked n) refl
    where
      by : (b : Bool) → marked n ≡ b → b ≡ false
      by true e = absurd (meets_unmarked precision n (edges_of (iterate kind precision es n)) meets (marked_tells n e))
      by false e = refl

  lower : (n : ℕ) → early_passes ≤ n → MarksInPass kind precision es n → spread (edges_of (iterate kind precision es (suc n))) + 2 ≤ spread (edges_of (iterate kind precision es n))
  lower n late = (late_passes_lower kind).by_two precision (iterate kind precision es n) n (iterate_normal kind precision es n h) late

  -- so many late passes as the spread
  rest_reached : (left n : ℕ) → early_passes ≤ n → spread (edges_of (iterate kind precision es n)) ≤ left → MeetsInEnds (edges_of (iterate kind precision es (n + left)))
  rest_reached zero n late bound = by (marked n) refl
    where
      by : (b : Bool) → marked n ≡ b → MeetsInEnds (edges_of (iterate kind precision es (n + 0)))
      by true e = absurd (omega (arith, bound, lower n late (marked_tells n e)))
      by false e = let same : n ≡ n + 0 = omega arith in subst (λ m. MeetsInEnds (edges_of (iterate kind precision es m))) same (meets_after n (unmarked_tells n e))
  rest_reached (suc left) n late bound = by (marked n) refl (rest_reached left (suc n) (omega arith))
    where
      by : (b : Bool) → marked n ≡ b → (spread (edges_of (iterate kind precision es (suc n))) ≤ left → MeetsInEnds (edges_of (iterate kind precision es (suc n + left))))
          → MeetsInEnds (edges_of (iterate kind precision es (n + suc left)))
      by true e next =
          let same : suc n + left ≡ n + suc left = omega arith in
          subst (λ m. MeetsInEnds (edges_of (iterate kind precision es m))) same
          (next (omega (arith, bound, lower n late (marked_tells n e))))
      by false e next =
          let meets = meets_after n (unmarked_tells n e) in
          subst (λ fs. MeetsInEnds (edges_of fs)) (sym (comes_to_rest kind precision es n (n + suc left) h (omega arith) meets)) meets

  -- the pass before which `redrawn` stands
  abbrev last : ℕ
  last = early_passes + spread (edges_of (iterate kind precision es early_passes))

  pub redrawn_meets : MeetsInEnds (edges_of (redrawn kind precision es))
  redrawn_meets =
      rest_reached (spread (edges_of (iterate kind precision es early_passes))) early_passes (omega arith) (omega arith)

  pub redrawn_at : (n : ℕ) → MeetsInEnds (edges_of (iterate kind precision es n)) → redrawn kind precision es ≡ iterate kind precision es n
  redrawn_at n meets =
      ⊎_elim (λ l. comes_to_rest kind precision es n last h l meets) (λ l. sym (comes_to_rest kind precision es last n h l redrawn_meets)) (either n last)
    where
      either : (n m : ℕ) → (n ≤ m) ⊎ (m ≤ n)
      either n m = ⊎_elim (λ l. inl (omega arith)) (λ l. inr l) (cases_lt n m)

  pub is_redrawing : IsRedrawing kind precision es
  is_redrawing = record {
    meets = redrawn_meets;
    first = let m = least (λ n. not (marked n)) last (ap not (unmarked_by last redrawn_meets)) in (
      m.0,
      record { unmarked = unmarked_tells m.0 (not_true (marked m.0) m.1); marked_before = λ k l. marked_tells k (not_false (marked k) (m.2 k l)) },
      redrawn_at m.0 (meets_after m.0 (unmarked_tells m.0 (not_true (marked m.0) m.1))),
    );
    at_each = λ n none. redrawn_at n (meets_after n none);
  }
    where
      not_true : (b : Bool) → not b ≡ true → b ≡ false
      not_true true e = absurd (cc)
      not_true false e = refl

      not_false : (b : Bool) → not b ≡ false → b ≡ true
      not_false true e = refl
      not_false false e = absurd (cc)

pub redraws_to_the_end : {C : Type 0} (kind : Counting C) (precision : Precision) → RedrawsToTheEnd kind precision
redraws_to_the_end kind precision es h = is_redrawing kind precision es h

-- where pass j doesn't mark, the map is at rest
pub marks_from_the_first : {C : Type 0} (kind : Counting C) (precision : Precision) → MarksFromTheFirst kind precision
marks_from_the_first kind precision es j k h l some = by (marked kind precision es h j) refl
  where
    by : (b : Bool) → marked kind precision es h j ≡ b → MarksInPass kind precision es j
    by true e = marked_tells kind precision es h j e
    by false e =
        let meets = meets_after kind precision es h j (unmarked_tells kind precision es h j e) in
        absurd (meets_unmarked precision k (edges_of (iterate kind precision es k)) (subst (λ fs. MeetsInEnds (edges_of fs)) (sym (comes_to_rest kind precision es j k h l meets)) meets) some)
