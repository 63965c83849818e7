use Rattle.std.proofs.Common.{◌≤◌}
use Rattle.bench.proofs.crossing.cross_pairs.Given as goal

abbrev pub invariant-loop-i : goal.invariant-loop-i
invariant-loop-i l = l.marked ≤ l.i
