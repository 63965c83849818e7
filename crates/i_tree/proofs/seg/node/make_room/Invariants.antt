use Rattle.std.proofs.Common.{◌≡◌, map}
use Rattle.i_tree.specs.Ranges.Nodes.{HaveRoom}
use Rattle.i_tree.proofs.seg.node.make_room.Given as goal

abbrev pub invariant-loop-node : goal.invariant-loop-node
invariant-loop-node l = record {
  lists : map (λ v. v.items) l.nodes ≡ map (λ v. v.items) l.fn.nodes;
  room : HaveRoom l.mask l.node l.nodes;
}
