-- The promise of a first pass that cuts horizontal and vertical entries in turn, from the calls that it is made of.
use Rattle.std.specs.Prelude.{◌≡◌, ◌≤◌, ◌<◌, ◌^◌, ◌↔◌, ◌+◌, ◌++◌, ℕ, ℤ, Bool, true, false, List, length, Ok, Err}
use Rattle.std.proofs.Common.{refl, subst, arith}
use Rattle.std.proofs.lemmas.Bool.{false≢true}
use Rattle.i_tree.specs.Steps.{Counts}
use Rattle.plane_base.specs.Plane.{Point}
use Rattle.plane_base.specs.Counts.{Count, Entry, boolean, IsNormal}
use Rattle.plane_base.specs.Crossing.{late_marks}
use Rattle.plane_base.specs.declared.fault.Fault.{Fault}
use Rattle.plane_base.proofs.Facts.Maps.Normal.{IsCounting}
use Rattle.segment_split.specs.Kinds.{count_fits}
use Rattle.segment_split.specs.MarkLists.{LaidMark}
use Rattle.segment_split.specs.Mixed.{IsSearched, IsCutApart, ArePartsApart}
use Rattle.segment_split.specs.Passes.{edges_of, marks_in, MarksSome, all_cut, pass_by}
use Rattle.segment_split.specs.RedrawLaws.{with_counts}
use Rattle.segment_split.specs.Redraws.{Work, Listed, Passes}
use Rattle.segment_split.specs.Refusals.{steps_in, IsOverfull, IsRefusal, IsRefusalOf}
use Rattle.segment_split.specs.Rows.{CountsPairsUpTo}
use Rattle.segment_split.specs.StepBounds.{most_pairs}
use Rattle.segment_split.specs.Sums.{of_count, IsAdded}
use Rattle.segment_split.specs.Sweeps.{Ticked}
use Rattle.segment_split.proofs.Mixed.Looks.{slanted_most, sweep_most}
use Rattle.segment_split.proofs.Mixed.Turns.{first_pieces, first_many, second_many, second_overfull, joined_many, joined_overfull}
use Rattle.segment_split.proofs.Passes.MarkLists.{edges_directed}
use Rattle.segment_split.proofs.Redrawing.Redraws.{pass_refused}
use Rattle.segment_split.proofs.Redrawing.Refusals.{handed_on}
use Rattle.segment_split.proofs.Redrawing.Sums.{overfull_read}

module _ {C D : Type 0} (work : Work C D) {of : ℤ → ℤ → C} (laws : IsCounting work.kind) (added : IsAdded work.kind work.fits of) {stride least greatest : ℤ}
    (old new : Listed C D work.joins) (next_new : List ℕ) (can : IsNormal work.kind old.entries) {marks : List LaidMark} {is_last : Bool} {first now : Counts}
    (s : IsSearched stride least greatest work.solver old.entries marks is_last first now) where
  abbrev Most : Counts → Type 0
  Most next = CountsPairsUpTo first next (most_pairs work.solver.strategy (edges_of old.entries))

  abbrev Steps_long : ℕ → Type 0
  Steps_long n = n ≤ length (steps_in work.kind work.solver.precision old.entries 0)

  -- before the sweep
  pub looks_before : Most now
  looks_before = slanted_most (edges_of old.entries) (edges_directed old.entries can) work.solver.strategy s.auto first now s.looks

  -- nothing is cut
  pub passes_uncut : length old.entries < 2 ^ 31 → (next : Counts) → Most next → (is_cut : Bool) → is_cut ≡ false
      → (is_cut ≡ true) ↔ MarksSome (marks_in work.solver.precision 0) (edges_of old.entries)
      → Passes work 0 old old next_new first next (Ok (record { is_marked = false; is_last = is_last }))
  passes_uncut few next looks is_cut down told = record {
    few = few;
    marked = subst (λ b. (b ≡ true) ↔ MarksSome (marks_in work.solver.precision 0) (edges_of old.entries)) down told;
    passed = λ e. absurd (false≢true e);
    with_data = λ e. absurd (false≢true e);
    skips = λ e. absurd (false≢true e);
    kept = λ _. refl;
    last = s.last;
    refused = tt;
    steps = looks;
  }

  -- too many are cut at first, or there is no memory
  pub refused_apart : (lines : List (Entry Count)) (others : List (Entry C)) (many : ℕ) → many ≡ length lines → (fault handed : Fault) → handed ≡ fault
      → IsRefusal ⊥ ((2 ^ 31 ≤ many) × IsCutApart stride least greatest work.kind (of_count of) marks old.entries lines others) fault
      → Passes work 0 old new next_new first now (Err handed)
  refused_apart lines others many same fault handed e refused =
      pass_refused work 0 old new next_new first now looks_before handed (handed_on fault handed e (λ none. absurd none) too_many refused)
    where
      too_many : (2 ^ 31 ≤ many) × IsCutApart stride least greatest work.kind (of_count of) marks old.entries lines others → Steps_long (2 ^ 31)
      too_many (long, cut) =
          let few = first_many laws work.solver.precision 0 old.entries can s.lines added.map lines others (cut work.solver.precision 0 s.found) in
          omega (arith, long, few, same)

  module _ (lines : List (Entry Count)) (others : List (Entry C))
      (cut : IsCutApart stride least greatest work.kind (of_count of) marks old.entries lines others) (next : Counts)
      (ticked : (ps : List Point) × Ticked lines ps now.pairs next.pairs) (level : next.comparisons ≡ now.comparisons) where
    apart : ArePartsApart work.kind (of_count of) work.solver.precision 0 old.entries lines others
    apart = cut work.solver.precision 0 s.found

    -- with the sweep
    pub looks_after : Most next
    looks_after =
        sweep_most old.entries can.directed lines
        (first_pieces laws work.solver.precision 0 old.entries can s.lines added.map lines others apart) work.solver.strategy s.auto first now next
        s.looks ticked.0 ticked.1 level

    -- the sweep is refused
    pub refused_laying : (fault handed : Fault) → handed ≡ fault → IsRefusalOf boolean count_fits (all_cut boolean late_marks (edges_of lines) lines) fault
        → Passes work 0 old new next_new first next (Err handed)
    refused_laying fault handed e refused =
        pass_refused work 0 old new next_new first next looks_after handed
        (handed_on fault handed e
        (λ over. second_overfull laws work.solver.precision 0 old.entries can s.lines added.map lines others apart work.fits
        (overfull_read added (all_cut boolean late_marks (edges_of lines) lines) over))
        (λ many. too_many many) refused)
      where
        too_many : 2 ^ 31 ≤ length (all_cut boolean late_marks (edges_of lines) lines) → Steps_long (2 ^ 31)
        too_many many = let few = second_many laws work.solver.precision 0 old.entries can s.lines added.map lines others apart in omega (arith, many, few)

    module _ (laid : List (Entry Count)) (is : laid ≡ pass_by boolean late_marks lines) where
      pub too_many_joined : 2 ^ 31 ≤ length laid + length others → Steps_long (2 ^ 31)
      too_many_joined many =
          let few = joined_many laws work.solver.precision 0 old.entries can s.lines added.map lines others apart laid is in
          omega (arith, many, few)

      -- joining them is refused
      pub refused_joining : (fault handed : Fault) → handed ≡ fault
          → IsRefusal (IsOverfull work.kind work.fits (with_counts (of_count of) laid ++ others)) ⊥ fault
          → Passes work 0 old new next_new first next (Err handed)
      refused_joining fault handed e refused =
          pass_refused work 0 old new next_new first next looks_after handed
          (handed_on fault handed e
          (joined_overfull laws work.solver.precision 0 old.entries can s.lines added.map lines others apart laid is work.fits) (λ none. absurd none) refused)
