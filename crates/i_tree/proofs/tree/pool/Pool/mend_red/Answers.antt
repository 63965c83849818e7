use Rattle.std.proofs.Common.{◌∙◌, sym, refl, subst}
use Rattle.i_tree.specs.Tree.Insertion.{done, IsRedTwice}
use Rattle.i_tree.proofs.Trees.Reads.{node-within, red-read, parent-read}
use Rattle.i_tree.proofs.Trees.Mends.{red-stands, red-within, painted-top, IsRedAt-under, IsRedUnder-black, IsRedUnder-twice, not_true, not_false}
use Rattle.i_tree.proofs.tree.pool.Pool.mend_red.Goals as goal

pub links-parent-requires : goal.links-parent-requires
links-parent-requires g c = let (sp, (ns, (deep, at))) = c.requires in red-within c.args.self.now.pool sp ns deep c.args.i at

pub paint-requires : goal.paint-requires
paint-requires g c = let (sp, (ns, (deep, at))) = c.requires in red-within c.args.self.now.pool sp ns deep c.args.i at

pub returns-then-parent-eq-NO_NODE-clause-tree : goal.returns-then-parent-eq-NO_NODE-clause-tree
returns-then-parent-eq-NO_NODE-clause-tree g c = λ sp ns deep at.
    let stands = red-stands c.args.self.now.pool sp ns deep c.args.i at in
    let up = parent-read c.args.self.now.pool sp at.context _ c.args.i _ _ _ stands _ c.links-parent.ensures.links in
    done refl (painted-top c.args.self.now.pool c.paint.new.self.pool sp ns deep c.args.i at (c.paint.ensures.tree sp at.context _ _ _ _ stands) (sym up ∙ c.if-parent-eq-NO_NODE.true))

pub links-node-requires : goal.links-node-requires
links-node-requires g c =
    let (sp, (ns, (deep, at))) = c.requires in
    let stands = red-stands c.args.self.now.pool sp ns deep c.args.i at in
    let up = parent-read c.args.self.now.pool sp at.context _ c.args.i _ _ _ stands _ c.links-parent.ensures.links in
    let u = IsRedAt-under c.args.self.now.pool sp ns deep c.links-parent.result.parent c.args.i at (sym up) c.if-parent-eq-NO_NODE.false in
    node-within c.args.self.now.pool sp u.context u.side _ u.red u.tree u.sibling u.stands

pub returns-then-not-node-clause-tree : goal.returns-then-not-node-clause-tree
returns-then-not-node-clause-tree g c = λ sp ns deep at.
    let stands = red-stands c.args.self.now.pool sp ns deep c.args.i at in
    let up = parent-read c.args.self.now.pool sp at.context _ c.args.i _ _ _ stands _ c.links-parent.ensures.links in
    let u = IsRedAt-under c.args.self.now.pool sp ns deep c.links-parent.result.parent c.args.i at (sym up) c.if-parent-eq-NO_NODE.false in
    let red = red-read c.args.self.now.pool sp u.context u.side _ u.red u.tree u.sibling u.stands _ c.links-node.ensures.links in
    done refl (IsRedUnder-black c.args.self.now.pool sp ns deep _ c.args.i u (sym red ∙ not_true _ c.if-not-node.true))

pub mend_twice-requires : goal.mend_twice-requires
mend_twice-requires g c =
    let (sp, (ns, (deep, at))) = c.requires in
    let stands = red-stands c.args.self.now.pool sp ns deep c.args.i at in
    let up = parent-read c.args.self.now.pool sp at.context _ c.args.i _ _ _ stands _ c.links-parent.ensures.links in
    let u = IsRedAt-under c.args.self.now.pool sp ns deep c.links-parent.result.parent c.args.i at (sym up) c.if-parent-eq-NO_NODE.false in
    let red = red-read c.args.self.now.pool sp u.context u.side _ u.red u.tree u.sibling u.stands _ c.links-node.ensures.links in
    let above = parent-read c.args.self.now.pool sp u.context u.side _ u.red u.tree u.sibling u.stands _ c.links-node.ensures.links in
    let (side, twice) = IsRedUnder-twice c.args.self.now.pool sp ns deep _ c.args.i u (sym red ∙ not_false _ c.if-not-node.false) in
    (sp, (ns, (deep, (side, subst (λ x. IsRedTwice c.args.self.now.pool sp ns deep side x c.links-parent.result.parent c.args.i) (sym above) twice))))

pub returns-clause-tree : goal.returns-clause-tree
returns-clause-tree g c = λ sp ns deep at.
    let stands = red-stands c.args.self.now.pool sp ns deep c.args.i at in
    let up = parent-read c.args.self.now.pool sp at.context _ c.args.i _ _ _ stands _ c.links-parent.ensures.links in
    let u = IsRedAt-under c.args.self.now.pool sp ns deep c.links-parent.result.parent c.args.i at (sym up) c.if-parent-eq-NO_NODE.false in
    let red = red-read c.args.self.now.pool sp u.context u.side _ u.red u.tree u.sibling u.stands _ c.links-node.ensures.links in
    let above = parent-read c.args.self.now.pool sp u.context u.side _ u.red u.tree u.sibling u.stands _ c.links-node.ensures.links in
    let (side, twice) = IsRedUnder-twice c.args.self.now.pool sp ns deep _ c.args.i u (sym red ∙ not_false _ c.if-not-node.false) in
    c.mend_twice.ensures.tree sp ns deep side (subst (λ x. IsRedTwice c.args.self.now.pool sp ns deep side x c.links-parent.result.parent c.args.i) (sym above) twice)
