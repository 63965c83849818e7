-- The first pass, and how it ends redrawing, or leads to the second.
use Rattle.std.specs.Prelude.{◌≡◌, ℕ, ℤ, true, false, List, [], Ok, Err}
use Rattle.std.proofs.Common.{refl, arith}
use Rattle.i_tree.specs.Steps.{Counts}
use Rattle.plane_base.proofs.Facts.Maps.Normal.{IsCounting}
use Rattle.plane_base.specs.declared.fault.Fault.{Fault}
use Rattle.segment_split.specs.Data.{without_data}
use Rattle.segment_split.specs.Redraws.{Work, Listed, CanBeRedrawn, Redraws, Passes, IsBefore, IsPassedTo}
use Rattle.segment_split.specs.SeenPasses.{IsPass}
use Rattle.segment_split.specs.declared.pass.Passed.{Passed}
use Rattle.segment_split.proofs.Passes.Skips.{none_old}
use Rattle.segment_split.proofs.Redrawing.Looks.{none_before}
use Rattle.segment_split.proofs.Redrawing.Loops.{next_within, next_normal, flag_early, not_raised}
use Rattle.segment_split.proofs.Redrawing.Passing.{ends_refused, ends_unmarked, ends_whole, one_further}
use Rattle.segment_split.specs.Passes.{edges_of}

module _ {C D : Type 0} (work : Work C D) where
  -- nothing was made before it
  pub at_first : (given : Listed C D work.joins) (now : Counts) → IsBefore work given given 0 now now
  at_first given now = record {
    entries = refl;
    seen = refl;
    looks = record { comparisons = refl; pairs = omega arith; bound = omega arith };
    marked = none_before work.solver.strategy work.kind work.solver.precision given.entries;
  }

  pub passed_to_first : (least greatest : ℤ) (given : Listed C D work.joins) (now : Counts) → CanBeRedrawn least greatest work.kind given.entries
      → without_data given.seen ≡ given.entries → IsPassedTo least greatest work given given 0 now now
  passed_to_first least greatest given now can alike = record { before = at_first given now; can = can; alike = alike }

  pub first_is_pass : (least greatest : ℤ) (given : Listed C D work.joins) → CanBeRedrawn least greatest work.kind given.entries
      → IsPass least greatest work.kind given.entries []
  first_is_pass least greatest given can =
      record { within = can.within; normal = can.normal; few = can.few; skips = none_old (edges_of given.entries) }

  module _ (laws : IsCounting work.kind) (given next : Listed C D work.joins) (next_new : List ℕ) (before after : Counts) where
    pub first_refused : (fault handed : Fault) → handed ≡ fault → Passes work 0 given next next_new before after (Err fault)
        → Redraws work given next before after (Err handed)
    first_refused fault handed e h = ends_refused work laws given given next 0 0 refl before before after (at_first given before) h.steps fault handed e h.refused

    module _ (least greatest : ℤ) (can : CanBeRedrawn least greatest work.kind given.entries) (alike : without_data given.seen ≡ given.entries) (passed : Passed)
        (h : Passes work 0 given next next_new before after (Ok passed)) where
      pub first_unmarked : passed.is_marked ≡ false → Redraws work given next before after (Ok false)
      first_unmarked down =
          let none = not_raised passed.is_marked down h.marked in
          ends_unmarked work laws given given next 0 0 refl before before after (at_first given before) h.steps can.normal alike alike h.few false
          (flag_early work.kind work.solver.precision given.entries given.entries 0 can.normal refl none (λ l. absurd (omega (arith, l))))
          (h.kept down) none

      pub first_whole : passed.is_marked ≡ true → passed.is_last ≡ true → Redraws work given next before after (Ok true)
      first_whole up last =
          ends_whole work laws given given next 0 0 refl before before after (at_first given before) h.steps (h.marked.0 up) (h.passed up) (h.with_data up)
          can.normal alike alike h.few (h.marked.0 up) (h.last last)

      -- it marks: the next pass is the second
      pub passed_to_second : passed.is_marked ≡ true → IsPassedTo least greatest work given next 1 before after
      passed_to_second up = record {
        before = one_further work laws given given next 0 0 refl before before after (at_first given before) h.steps (h.marked.0 up) (h.passed up) (h.with_data up) 1 refl;
        can = can;
        alike = alike;
      }

      pub second_is_pass : passed.is_marked ≡ true → IsPass least greatest work.kind next.entries next_new
      second_is_pass up = record {
        within = next_within work.kind work.solver.precision least greatest given.entries next.entries 0 can.within (h.passed up);
        normal = next_normal work.kind work.solver.precision given.entries next.entries 0 can.normal (h.passed up);
        few = h.few;
        skips = h.skips up;
      }
