use Rattle.std.proofs.Common.{◌≡◌, ℕ, [], map, true}
use Rattle.i_tree.specs.Ranges.Nodes.{list_at}
use Rattle.i_tree.proofs.Keys.Lists.{so_far}
use Rattle.i_tree.proofs.seg.node.empty.Given as goal

abbrev pub invariant-loop-node : goal.invariant-loop-node
invariant-loop-node l = (n : ℕ) → list_at (map (λ v. v.items) l.nodes) n ≡ so_far (λ n. true) (λ list. []) (list_at (map (λ v. v.items) l.fn.nodes)) l.node n
