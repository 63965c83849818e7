use Rattle.i_tree.proofs.Trees.Openings.{IsAtPlace-root}
use Rattle.i_tree.proofs.tree.entries.Entries.down.Goals as goal

pub returns : goal.returns
returns g c =
    rw (← c.self.view_is)
    (λ deep before here after place.
    IsAtPlace-root _ c.args.parent c.args.left deep before here after place c.down.result
    (c.down.ensures place.spare place.context place.subtree place.filled.stands place.parent_is place.side_is))
