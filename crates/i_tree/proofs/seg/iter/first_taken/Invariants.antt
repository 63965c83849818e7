use Rattle.std.proofs.Common.{◌≡◌, filter, length}
use Rattle.i_tree.specs.Ranges.Nodes.{is_taken}
use Rattle.i_tree.specs.Ranges.Pool.{named_at, picked}
use Rattle.i_tree.proofs.seg.iter.first_taken.Given as goal

abbrev pub invariant-loop-at : goal.invariant-loop-at
invariant-loop-at g l = picked l.pool (filter (is_taken (named_at (λ e. e.named) l.pool) l.query l.node) l.list) ≡ picked l.pool (filter (is_taken (named_at (λ e. e.named) l.pool) l.query l.node) l.rest)

abbrev pub decreases-loop-at : goal.decreases-loop-at
decreases-loop-at g l = length l.rest
