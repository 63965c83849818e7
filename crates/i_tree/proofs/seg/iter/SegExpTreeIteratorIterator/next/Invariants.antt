use Rattle.std.proofs.Common.{◌≡◌, ◌-◌}
use Rattle.i_tree.specs.Ranges.Walk.{yields_of}
use Rattle.i_tree.proofs.seg.iter.SegExpTreeIteratorIterator.next.Given as goal

abbrev pub invariant-loop-value : goal.invariant-loop-value
invariant-loop-value g l = yields_of l.self ≡ yields_of l.initial.self

abbrev pub decreases-loop-value : goal.decreases-loop-value
decreases-loop-value g l = 62 - l.self.node
