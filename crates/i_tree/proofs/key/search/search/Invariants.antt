use Rattle.i_tree.specs.Tree.Entries.{held_below}
use Rattle.i_tree.proofs.Trees.Searches.{Arrives}
use Rattle.i_tree.proofs.key.search.search.Given as goal

abbrev pub invariant-loop-time : goal.invariant-loop-time
invariant-loop-time g l =
    Arrives g.E.Ord.cmp g.K.ExpiredKey.expires l.time (goal.F-post g l.f) l.fn.tree l.tree l.fn.steps l.steps l.parent l.left l.below l.found

abbrev pub decreases-loop-time : goal.decreases-loop-time
decreases-loop-time g l = held_below l.tree.pool l.parent l.left
