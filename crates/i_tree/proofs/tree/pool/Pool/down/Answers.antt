use Rattle.std.proofs.Common.{◌≢◌, ◌∙◌, ap, sym}
use Rattle.i_tree.specs.declared.tree.pool.TheConstants.{NO_NODE}
use Rattle.i_tree.specs.Tree.Pool.{parent_of, child_of, links_at}
use Rattle.i_tree.proofs.Trees.Places.{parent-within}
use Rattle.i_tree.proofs.Trees.Names.{down-root, down-child}
use Rattle.i_tree.proofs.tree.pool.Pool.down.Goals as goal

pub returns-then-parent-eq-NO_NODE : goal.returns-then-parent-eq-NO_NODE
returns-then-parent-eq-NO_NODE g c = λ sp k t stands e on. c.root.ensures ∙ down-root c.args.self.now.pool sp k t stands (e ∙ c.if-parent-eq-NO_NODE.true)

pub links-requires : goal.links-requires
links-requires g c =
    let (sp, (k, (t, (stands, (e, on))))) = c.requires in
    let ne : parent_of k ≢ NO_NODE = λ x. c.if-parent-eq-NO_NODE.false (sym e ∙ x) in
    rw (← e) (parent-within c.args.self.now.pool sp k t stands ne)

pub returns : goal.returns
returns g c = λ sp k t stands e on.
    let ne : parent_of k ≢ NO_NODE = λ x. c.if-parent-eq-NO_NODE.false (sym e ∙ x) in
    down-child c.args.self.now.pool sp k t c.args.left c.child.result stands ne on
    (c.child.ensures ∙ ap (child_of c.args.left) (c.links.ensures.links ∙ ap (links_at c.args.self.now.pool) (sym e)))
