use Rattle.std.proofs.Common.{◌≡◌, ℕ, ◌<◌, ◌≤◌, ◌++◌, ◌∷◌, [], map, nat_lt, true, false, get_or, vec_len, vec_capacity}
use Rattle.i_tree.specs.Ranges.Nodes.{list_at, has_node}
use Rattle.i_tree.proofs.Keys.Lists.{so_far}
use Rattle.i_tree.proofs.seg.node.place.Given as goal

abbrev pub invariant-loop-node : goal.invariant-loop-node
invariant-loop-node l = record {
  lists : (n : ℕ) → list_at (map (λ v. v.items) l.nodes) n ≡ so_far (has_node l.mask) (λ list. list ++ l.at ∷ []) (list_at (map (λ v. v.items) l.fn.nodes)) l.node n;
  room : (n : ℕ) → l.node ≤ n → n < 63 → has_node l.mask n ≡ true → get_or (map (λ v. nat_lt (vec_len v) (vec_capacity v)) l.nodes) n false ≡ true;
}
