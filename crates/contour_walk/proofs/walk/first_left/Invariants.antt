use Rattle.std.proofs.Common.{◌≡◌, ℕ, ◌<◌, false, get_or}
use Rattle.segment_arrangement.specs.declared.graph.VisitState.TheVariants.{Skipped}
use Rattle.contour_walk.specs.LinearWalks.{is_left}
use Rattle.contour_walk.proofs.walk.first_left.Given as goal

-- None is left at the places before this one.
abbrev pub invariant-loop-place : goal.invariant-loop-place
invariant-loop-place l = (j : ℕ) → (j < l.from → is_left (get_or l.states j Skipped) ≡ false) → j < l.place → is_left (get_or l.states j Skipped) ≡ false
