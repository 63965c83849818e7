use Rattle.std.specs.Ordering.{int_cmp}
use Rattle.i_tree.specs.IndexedSet.{AreRising, values_of}
use Rattle.i_tree_test.proofs.tests.sets.stands_when_refused.Given as goal

abbrev pub invariant-loop-key : goal.invariant-loop-key
invariant-loop-key g l = AreRising int_cmp (λ p. p.key) (values_of (g.S.SetCollection.set l.set))
