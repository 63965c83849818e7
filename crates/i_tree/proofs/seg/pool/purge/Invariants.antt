use Rattle.std.proofs.Common.{map, vec_capacity}
use Rattle.i_tree.specs.Bag.{is_still_live}
use Rattle.i_tree.specs.Ranges.Nodes.{list_at}
use Rattle.i_tree.specs.Ranges.Pool.{AreSpare, IsPurgedTo}
use Rattle.i_tree.proofs.seg.pool.purge.Given as goal

abbrev pub invariant-loop-node : goal.invariant-loop-node
invariant-loop-node g l = record {
  purged : IsPurgedTo (λ e. e.named) (λ e. is_still_live g.E.Ord.cmp g.V.ExpiredVal.expires l.time e.value) l.mask l.node l.fn.pool l.pool (list_at (map (λ v. v.items) l.nodes));
  spare : AreSpare (λ e. e.named) l.pool l.spares.items (vec_capacity l.spares);
}
