use Rattle.std.proofs.Common.{◌≡◌, ℕ, ◌≤◌, ◌<◌, ◌-◌, length, get_or, true, vec_capacity}
use Rattle.i_tree.specs.Bag.{is_still_live}
use Rattle.i_tree.specs.Ranges.Pool.{lives_at, AreNamedAt, AreSpare, IsUnnamed}
use Rattle.i_tree.proofs.seg.pool.purge_list.Given as goal

abbrev pub invariant-loop-i : goal.invariant-loop-i
invariant-loop-i g l = record {
  unnamed : IsUnnamed (λ e. e.named) (λ e. is_still_live g.E.Ord.cmp g.V.ExpiredVal.expires l.time e.value) l.node l.fn.pool l.pool;
  names : AreNamedAt (λ e. e.named) l.pool l.node l.list.items;
  within : l.i ≤ length l.list.items;
  live : (k : ℕ) → k < l.i → lives_at (λ e. is_still_live g.E.Ord.cmp g.V.ExpiredVal.expires l.time e.value) l.pool (get_or l.list.items k 0) ≡ true;
  spare : AreSpare (λ e. e.named) l.pool l.spares.items (vec_capacity l.spares);
}

abbrev pub decreases-loop-i : goal.decreases-loop-i
decreases-loop-i g l = length l.list.items - l.i
