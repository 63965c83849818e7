-- How many pairs are looked at, from pass to pass.
use Rattle.std.specs.Prelude.{◌≡◌, ◌⊎◌, ℕ, zero, suc, ◌+◌, ◌-◌, ◌<◌, ◌≤◌, List}
use Rattle.std.proofs.Common.{sym, ap, ◌∙◌, subst, inl, inr, arith}
use Rattle.std.proofs.lemmas.Bool.{cases_lt}
use Rattle.i_tree.specs.Steps.{Counts}
use Rattle.plane_base.specs.Counts.{Counting, Entry}
use Rattle.segment_split.specs.Passes.{early_passes, edges_of, marks_in, MarksSome}
use Rattle.segment_split.specs.Redrawing.{iterate, MarksInPass, AllMarkedBefore}
use Rattle.segment_split.specs.MarkLists.{CountsPairs}
use Rattle.segment_split.specs.Rows.{CountsPairsUpTo}
use Rattle.segment_split.specs.StepBounds.{most_pairs, pairs_in_passes, looks_in_passes, LooksAtFew}
use Rattle.segment_split.specs.declared.solver.Precision.{Precision}
use Rattle.segment_split.specs.declared.solver.Strategy.{Strategy}
use Rattle.segment_split.proofs.Redrawing.Loops.{late_alike}

pub counted : (old new : Counts) (n : ℕ) → CountsPairsUpTo old new n → CountsPairs old new
counted old new n h = record { comparisons = h.comparisons; pairs = h.pairs }

module _ {C : Type 0} (by : Strategy) (kind : Counting C) (precision : Precision) (es : List (Entry C)) where
  pub none_before : AllMarkedBefore kind precision es 0
  none_before n none = omega arith

  pub one_marked_more : (k : ℕ) → MarksInPass kind precision es k → AllMarkedBefore kind precision es k → AllMarkedBefore kind precision es (k + 1)
  one_marked_more k marks before n none = at (cases_lt k n)
    where
      at : (k < n) ⊎ (n ≤ k) → k + 1 ≤ n
      at (inl less) = omega (arith, less)
      at (inr more) = let low = before n none in let same : k ≡ n = omega (arith, more, low) in absurd (none (subst (MarksInPass kind precision es) same marks))

  pub marks_here : (now : List (Entry C)) (k : ℕ) → now ≡ iterate kind precision es k → MarksSome (marks_in precision k) (edges_of now) → MarksInPass kind precision es k
  marks_here now k here = subst (λ l. MarksSome (marks_in precision k) (edges_of l)) here

  pub marks_late : (now : List (Entry C)) (n : ℕ) → early_passes ≤ n → now ≡ iterate kind precision es n → MarksSome (marks_in precision early_passes) (edges_of now) → MarksInPass kind precision es n
  marks_late now n late here some = marks_here now n here (subst (λ m. MarksSome m (edges_of now)) (sym (late_alike kind precision n late)) some)

  passes_rise : (k n : ℕ) → k ≤ n → pairs_in_passes by kind precision es k ≤ pairs_in_passes by kind precision es n
  passes_rise k zero l = let same = ap (pairs_in_passes by kind precision es) (none k l) in omega (arith, same)
    where
      none : (k : ℕ) → k ≤ 0 → k ≡ 0
      none k l = omega (arith, l)
  passes_rise k (suc n) l = at (cases_lt n k) (passes_rise k n)
    where
      at : (n < k) ⊎ (k ≤ n) → (k ≤ n → pairs_in_passes by kind precision es k ≤ pairs_in_passes by kind precision es n) → pairs_in_passes by kind precision es k ≤ pairs_in_passes by kind precision es (suc n)
      at (inl less) before = let end : k ≡ suc n = omega (arith, less, l) in let same = ap (pairs_in_passes by kind precision es) end in omega (arith, same)
      at (inr more) before = let h = before more in omega (arith, h)

  -- of so many looks those of pass k, where each pass makes as many as it may
  abbrev part : ℕ → ℕ → ℕ
  part many k = (many - pairs_in_passes by kind precision es k) - (many - pairs_in_passes by kind precision es (suc k))

  part_few : (many k : ℕ) → part many k ≤ most_pairs by (edges_of (iterate kind precision es k))
  part_few many k = omega arith

  parts_to : (many n : ℕ) → looks_in_passes (part many) n + (many - pairs_in_passes by kind precision es n) ≡ many
  parts_to many zero = omega arith
  parts_to many (suc n) = let before = parts_to many n in omega (arith, before)

  parts_are : (many n : ℕ) → many ≤ pairs_in_passes by kind precision es n → looks_in_passes (part many) n ≡ many
  parts_are many n h = let all = parts_to many n in omega (arith, all, h)

  module _ (now : List (Entry C)) (k : ℕ) (here : now ≡ iterate kind precision es k) (first last next : Counts) (h : CountsPairsUpTo first last (pairs_in_passes by kind precision es k)) (own : CountsPairsUpTo last next (most_pairs by (edges_of now))) where
    through : CountsPairsUpTo first next (pairs_in_passes by kind precision es (suc k))
    through =
        let same = ap (λ l. most_pairs by (edges_of l)) here in
        record { comparisons = own.comparisons ∙ h.comparisons; pairs = omega (arith, h.pairs, own.pairs); bound = omega (arith, h.bound, own.bound, same) }

    -- a pass more
    pub looked_further : (m : ℕ) → m ≡ suc k → CountsPairsUpTo first next (pairs_in_passes by kind precision es m)
    looked_further m e = subst (λ m. CountsPairsUpTo first next (pairs_in_passes by kind precision es m)) (sym e) through

    -- in pass k or after it
    pub looks_few : AllMarkedBefore kind precision es k → LooksAtFew by kind precision es first next
    looks_few before =
        let many = next.pairs - first.pairs in
        record {
          made = suc k;
          looks = part many;
          each = part_few many;
          last = λ n none. let low = before n none in omega (arith, low);
          all = let sum = parts_are many (suc k) (omega (arith, through.bound, through.pairs)) in omega (arith, sum, through.pairs);
          together = λ n none.
              let low = before n none in
              let rises = passes_rise (suc k) (suc n) (omega (arith, low)) in
              omega (arith, rises, through.bound);
        }

  pub looks_at_none : (now : Counts) → LooksAtFew by kind precision es now now
  looks_at_none now = record {
    made = 0;
    looks = λ k. 0;
    each = λ k. omega arith;
    last = λ n none. omega arith;
    all = omega arith;
    together = λ n none. omega arith;
  }
