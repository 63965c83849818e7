use Rattle.std.proofs.Common.{◌≤◌, length, take, All}
use Rattle.segment_arrangement.specs.GraphViews.{IsSound}
use Rattle.segment_arrangement.proofs.graph.are_sound.Given as goal

abbrev pub invariant-loop-node : goal.invariant-loop-node
invariant-loop-node l = All (IsSound (length l.nodes ≤ l.links)) (take l.node-index l.nodes)
