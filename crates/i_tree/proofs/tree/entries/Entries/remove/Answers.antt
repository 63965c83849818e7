use Rattle.std.proofs.Common.{true, sym, ap, subst, length, List, ◌∙◌, arith}
use Rattle.i_tree.specs.Tree.Shape.{join}
use Rattle.i_tree.specs.Tree.Pool.{Nodes}
use Rattle.i_tree.specs.Tree.Entries.{IsSwapped, IsTakenFrom}
use Rattle.i_tree.proofs.Trees.Entries.{IsSwapped-itself}
use Rattle.i_tree.proofs.Trees.Losses.{root-is, at-within, gone-within, places-same, taken-out}
use Rattle.i_tree.proofs.tree.entries.Entries.remove.Goals as goal

pub remove-gone-requires-clause-stands : goal.remove-gone-requires-clause-stands
remove-gone-requires-clause-stands g c =
    let (s, node) = rw (← c.self.view_is) at c.requires in
    (node.spare, (node.context, (join true c.args.at node.red node.left node.right, (node.filled, root-is _ s.parent s.side s.deep s.before s.near c.args.at s.entry s.far s.after node))))

pub swap_entries-requires-clause-each_place : goal.swap_entries-requires-clause-each_place
swap_entries-requires-clause-each_place g c =
    let (s, node) = rw (← c.self.view_is) at c.requires in
    let removed = c.remove-gone.ensures.tree node.spare node.context (join true c.args.at node.red node.left node.right) node.filled (root-is _ s.parent s.side s.deep s.before s.near c.args.at s.entry s.far s.after node) in
    let same = ap length c.remove-gone.ensures.entries in
    let many = places-same _ s.parent s.side s.deep s.before s.near c.args.at s.entry s.far s.after node c.remove-gone.new.self.pool c.remove-gone.result removed in
    same ∙ node.each_place ∙ sym many

pub swap_entries-requires-clause-first : goal.swap_entries-requires-clause-first
swap_entries-requires-clause-first g c =
    let (s, node) = rw (← c.self.view_is) at c.requires in
    let removed = c.remove-gone.ensures.tree node.spare node.context (join true c.args.at node.red node.left node.right) node.filled (root-is _ s.parent s.side s.deep s.before s.near c.args.at s.entry s.far s.after node) in
    let same = ap length c.remove-gone.ensures.entries in
    omega (arith, at-within _ s.parent s.side s.deep s.before s.near c.args.at s.entry s.far s.after node)

pub swap_entries-requires-clause-second : goal.swap_entries-requires-clause-second
swap_entries-requires-clause-second g c =
    let (s, node) = rw (← c.self.view_is) at c.requires in
    let removed = c.remove-gone.ensures.tree node.spare node.context (join true c.args.at node.red node.left node.right) node.filled (root-is _ s.parent s.side s.deep s.before s.near c.args.at s.entry s.far s.after node) in
    let same = ap length c.remove-gone.ensures.entries in
    omega (arith, gone-within _ s.parent s.side s.deep s.before s.near c.args.at s.entry s.far s.after node c.remove-gone.new.self.pool c.remove-gone.result removed)

pub returns-then-gone-at : goal.returns-then-gone-at
returns-then-gone-at g c =
    rw (← c.self.view_is)
    (λ s node.
    subst (λ (p : Nodes). IsTakenFrom c.self.inside.pool (record { pool = p; entries = c.swap_entries.new.self.entries }) s.parent s.side s.deep s.before s.near c.args.at s.far s.after c.remove-gone.result) (sym c.swap_entries.ensures.pool)
    (taken-out _ s.parent s.side s.deep s.before s.near c.args.at s.entry s.far s.after node c.remove-gone.new.self.pool c.remove-gone.result
    (c.remove-gone.ensures.tree node.spare node.context (join true c.args.at node.red node.left node.right) node.filled (root-is _ s.parent s.side s.deep s.before s.near c.args.at s.entry s.far s.after node))
    c.swap_entries.new.self.entries (subst (λ es. IsSwapped es c.swap_entries.new.self.entries c.args.at c.remove-gone.result) c.remove-gone.ensures.entries c.swap_entries.ensures.entries)))

pub returns-else-gone-at : goal.returns-else-gone-at
returns-else-gone-at g c =
    rw (← c.self.view_is)
    (λ s node.
    subst (λ (es : List _). IsTakenFrom c.self.inside.pool (record { pool = c.remove-gone.new.self.pool; entries = es }) s.parent s.side s.deep s.before s.near c.args.at s.far s.after c.remove-gone.result) (sym c.remove-gone.ensures.entries)
    (taken-out _ s.parent s.side s.deep s.before s.near c.args.at s.entry s.far s.after node c.remove-gone.new.self.pool c.remove-gone.result
    (c.remove-gone.ensures.tree node.spare node.context (join true c.args.at node.red node.left node.right) node.filled (root-is _ s.parent s.side s.deep s.before s.near c.args.at s.entry s.far s.after node))
    _ (IsSwapped-itself _ c.args.at c.remove-gone.result (sym c.if-gone-at.false))))
