use Rattle.std.proofs.Common.{◌≢◌, ◌∙◌, sym, ap}
use Rattle.std.proofs.lemmas.Bool.{eq-eqb}
use Rattle.i_tree.specs.declared.tree.pool.TheConstants.{NO_NODE}
use Rattle.i_tree.specs.Tree.Shape.{redness}
use Rattle.i_tree.specs.Tree.Pool.{root_of, links_at}
use Rattle.i_tree.proofs.Trees.Places.{IsAt-root}
use Rattle.i_tree.proofs.Trees.Paints.{root_redness-links, root_redness-empty}
use Rattle.i_tree.proofs.tree.pool.Pool.is_red.Goals as goal

pub links-requires : goal.links-requires
links-requires g c = let t = c.requires in (IsAt-root c.args.self.now.pool t.parent t.tree c.args.i t.at t.root_is c.if-i-ne-NO_NODE.true).within

pub returns-then-i-ne-NO_NODE : goal.returns-then-i-ne-NO_NODE
returns-then-i-ne-NO_NODE g c = λ t.
    let ne : root_of t.tree ≢ NO_NODE = λ e. c.if-i-ne-NO_NODE.true (sym t.root_is ∙ e) in
    root_redness-links c.args.self.now.pool t.parent t.tree t.at ne ∙ ap (λ i. redness (links_at c.args.self.now.pool i).red) t.root_is ∙ ap (λ l. redness l.red) (sym c.links.ensures.links)

pub returns-else-i-ne-NO_NODE : goal.returns-else-i-ne-NO_NODE
returns-else-i-ne-NO_NODE g c = λ t.
    rw (eq-eqb c.args.i NO_NODE c.if-i-ne-NO_NODE.false) (root_redness-empty c.args.self.now.pool t.parent t.tree t.at t.fits (t.root_is ∙ c.if-i-ne-NO_NODE.false))
