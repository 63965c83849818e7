use Rattle.std.proofs.Common.{ℕ, List}
use Rattle.i_tree.specs.Tree.Entries.{Place, IsAtPlace, held_below}
use Rattle.i_tree.proofs.Trees.Clears.{Clearing}
use Rattle.i_tree.proofs.key.search.drop_expired.Given as goal

abbrev pub invariant-loop-at : goal.invariant-loop-at
invariant-loop-at g l =
    (deep : ℕ) (before here after : List _) → Place l.fn.tree l.parent l.left deep before here after → IsAtPlace l.fn.tree l.parent l.left deep before here after l.fn.found
    → Clearing g.E.Ord.cmp g.K.ExpiredKey.expires l.time l.fn.tree l.tree l.parent l.left deep before here after l.at

abbrev pub decreases-loop-at : goal.decreases-loop-at
decreases-loop-at g l = held_below l.tree.pool l.parent l.left
