use Rattle.std.specs.Ordering.{int_cmp}
use Rattle.i_tree.specs.IndexedSet.{AreRising, values_of}
use Rattle.i_tree_test.proofs.tests.sets.first_unlike.Given as goal

abbrev pub invariant-loop-step : goal.invariant-loop-step
invariant-loop-step g l = AreRising int_cmp (λ p. p.key) (values_of (g.S.SetCollection.set l.set))
