use Rattle.std.proofs.Common.{◌≡◌, ◌++◌, ◌-◌, map, take}
use Rattle.std.specs.List.{range_with_len}
use Rattle.segment_arrangement.specs.LinkEndViews.{end_of}
use Rattle.segment_arrangement.proofs.node.VecUsizeGraphNode.of_run.Given as goal

abbrev pub invariant-loop-at : goal.invariant-loop-at
invariant-loop-at g l = l.places.items ≡ take l.at (range_with_len l.from (l.to - l.from) ++ map (λ n. (end_of g.N.EndNumber.half g.N.EndNumber.room g.N.EndNumber.number n).place) l.run)
