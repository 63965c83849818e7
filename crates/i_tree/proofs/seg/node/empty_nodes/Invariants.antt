use Rattle.std.proofs.Common.{◌≡◌, ℕ, [], map, length}
use Rattle.i_tree.specs.Ranges.Nodes.{list_at}
use Rattle.i_tree.proofs.seg.node.empty_nodes.Given as goal

abbrev pub invariant-loop-i : goal.invariant-loop-i
invariant-loop-i l = record {
  all : length l.nodes.items ≡ l.i;
  empty : (n : ℕ) → list_at (map (λ v. v.items) l.nodes.items) n ≡ [];
}
