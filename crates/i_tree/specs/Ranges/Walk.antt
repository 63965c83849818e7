-- What a walk over a bucket tree has yet to yield.
use Rattle.std.specs.Prelude.{List, map}
use Rattle.i_tree.specs.declared.seg.iter.SegExpTreeIterator.{SegExpTreeIterator}
use Rattle.i_tree.specs.Ranges.Nodes.{list_at, left_to_walk}
use Rattle.i_tree.specs.Ranges.Pool.{named_at, picked}

-- the values that the walk has yet to yield, in its order
abbrev pub yields_of : {V : Type 0} → SegExpTreeIterator V → List V
yields_of walk = map (λ e. e.value) (picked walk.ranges.now.pool.items (left_to_walk (named_at (λ e. e.named) walk.ranges.now.pool.items)
    (list_at (map (λ list. list.items) walk.ranges.now.nodes.items)) walk.query walk.node walk.rest.now))
