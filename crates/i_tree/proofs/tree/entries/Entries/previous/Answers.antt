use Rattle.std.proofs.Common.{◌∙◌}
use Rattle.i_tree.proofs.Trees.Nodes.{Node-fork, Node-last}
use Rattle.i_tree.proofs.tree.entries.Entries.previous.Goals as goal

pub previous-requires : goal.previous-requires
previous-requires g c =
    let (s, node) = rw (← c.self.view_is) at c.requires in
    Node-fork _ s.parent s.side s.deep s.before s.near c.args.at s.entry s.far s.after node

pub returns : goal.returns
returns g c =
    rw (← c.self.view_is)
    (λ s node.
    c.previous.ensures (Node-fork _ s.parent s.side s.deep s.before s.near c.args.at s.entry s.far s.after node) ∙ Node-last _ s.parent s.side s.deep s.before s.near c.args.at s.entry s.far s.after node)
