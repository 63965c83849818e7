-- The promise of redrawing for counts that are just added, from what is promised of their sums.
use Rattle.std.specs.Prelude.{◌≡◌, ◌<◌, ◌^◌, ◌↔◌, ℕ, ℤ, Bool, true, List, length, Ok, Err}
use Rattle.std.proofs.Common.{sym, ap, ◌∙◌, subst, arith}
use Rattle.std.proofs.lemmas.List.{length-map}
use Rattle.i_tree.specs.Steps.{Counts}
use Rattle.plane_base.specs.Counts.{Count, Entry, boolean}
use Rattle.plane_base.specs.declared.fault.Fault.{Fault}
use Rattle.segment_split.specs.Data.{redrawn_with_data}
use Rattle.segment_split.specs.Kinds.{count_fits}
use Rattle.segment_split.specs.MarkLists.{CountsPairs}
use Rattle.segment_split.specs.Passes.{edges_of}
use Rattle.segment_split.specs.Redrawing.{redrawn, MarksInPass}
use Rattle.segment_split.specs.RedrawLaws.{with_counts}
use Rattle.segment_split.specs.Redraws.{Work, Listed, Redraws}
use Rattle.segment_split.specs.Refusals.{PassesTooMuch, LaysTooMany, IsRefusal}
use Rattle.segment_split.specs.Rows.{CountsPairsUpTo}
use Rattle.segment_split.specs.Seen.{seen_join}
use Rattle.segment_split.specs.StepBounds.{most_pairs, LooksAtFew}
use Rattle.segment_split.specs.Sums.{of_count, IsAdded}
use Rattle.segment_split.specs.declared.solver.Precision.{Precision}
use Rattle.segment_split.specs.declared.solver.Strategy.TheVariants as strategy
use Rattle.segment_split.proofs.Redrawing.Counts.{with_count_of}
use Rattle.segment_split.proofs.Redrawing.Looks.{counted}
use Rattle.segment_split.proofs.Redrawing.Redraws.{refuses, looked_once}
use Rattle.segment_split.proofs.Redrawing.Refusals.{handed_on}
use Rattle.segment_split.proofs.Redrawing.Sums.{sums_redrawn, sums_marked, sums_too_much, sums_too_many, sums_edges}

module _ {C D : Type 0} (work : Work C D) {of : ℤ → ℤ → C} (added : IsAdded work.kind work.fits of) (auto : work.solver.strategy ≡ strategy.Auto)
    (old new : Listed C D work.joins) (keys : List (Entry Count)) (same : with_counts (of_count of) keys ≡ old.entries)
    (before after : Counts) (own : CountsPairsUpTo before after (most_pairs strategy.Auto (edges_of keys))) where
  looks : LooksAtFew work.solver.strategy work.kind work.solver.precision old.entries before after
  looks =
      let edges : edges_of keys ≡ edges_of old.entries = sym (sums_edges added keys) ∙ ap edges_of same in
      looked_once work old new auto before after (subst (λ l. CountsPairsUpTo before after (most_pairs strategy.Auto l)) edges own)

  steps : CountsPairs before after
  steps = counted before after _ own

  pub keys_redrawn : (laid : List (Entry Count)) (marked : Bool) → new.entries ≡ with_counts (of_count of) laid → length laid < 2 ^ 31
      → ((precision : Precision) → laid ≡ redrawn boolean precision keys)
      → ((precision : Precision) → (marked ≡ true) ↔ ((k : ℕ) × MarksInPass boolean precision keys k))
      → (new.entries ≡ redrawn work.kind work.solver.precision old.entries
      → new.seen ≡ redrawn_with_data work.kind (seen_join work.joins work.join) work.solver.precision old.seen)
      → Redraws work old new before after (Ok marked)
  keys_redrawn laid marked put few told flag with_data =
      let precision = work.solver.precision in
      let drawn : new.entries ≡ redrawn work.kind precision old.entries =
      put ∙ (sums_redrawn added precision keys laid (told precision) ∙ ap (redrawn work.kind precision) same) in
      let long = ap length put in
      record {
        redrawn = drawn;
        with_data = with_data drawn;
        few = omega (arith, few, long, length-map laid (with_count_of (of_count of)));
        marked = subst (λ l. (marked ≡ true) ↔ ((k : ℕ) × MarksInPass work.kind precision l k)) same (sums_marked added precision keys marked (flag precision));
        refused = tt;
        steps = steps;
        looks = looks;
      }

  pub keys_refused : (fault handed : Fault) → handed ≡ fault
      → ((precision : Precision) → IsRefusal (PassesTooMuch boolean count_fits precision keys) (LaysTooMany boolean precision keys) fault)
      → Redraws work old new before after (Err handed)
  keys_refused fault handed e refused =
      let precision = work.solver.precision in
      refuses work old new before after handed
      (handed_on fault handed e (λ over. subst (PassesTooMuch work.kind work.fits precision) same (sums_too_much added precision keys over))
      (λ many. subst (LaysTooMany work.kind precision) same (sums_too_many added precision keys many)) (refused precision))
      steps looks
