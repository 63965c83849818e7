use Rattle.std.proofs.Common.{◌∙◌, ap, sym, subst, not, false, true, refl, arith}
use Rattle.i_tree.specs.Tree.Shape.{under, redness}
use Rattle.i_tree.specs.Tree.Pool.{child_of}
use Rattle.i_tree.specs.Tree.Insertion.{depth, IsRedTwice, done, goes_on}
use Rattle.i_tree.proofs.Trees.Reads.{node-within, node-focus, far-read, far-subtree}
use Rattle.i_tree.proofs.Trees.Twists.{IsRed-root, uncle-reddens, IsRedAt-reddened, outer-lifts, IsTreeBalanced-outer, root_redness-le}
use Rattle.i_tree.proofs.tree.pool.Pool.mend_twice.Goals as goal

pub is_left-left-requires : goal.is_left-left-requires
is_left-left-requires g c =
    let (sp, (ns, (deep, (side, a)))) = c.requires in
    node-focus c.args.self.now.pool sp (under a.context side c.args.above false a.uncle) a.inner_side c.args.parent true a.tree a.sibling a.stands

pub links-requires : goal.links-requires
links-requires g c =
    let (sp, (ns, (deep, (side, a)))) = c.requires in
    node-within c.args.self.now.pool sp a.context side c.args.above false _ a.uncle a.stands

pub is_red-requires : goal.is_red-requires
is_red-requires g c =
    let (sp, (ns, (deep, (side, a)))) = c.requires in
    let left = c.is_left-left.ensures (node-focus c.args.self.now.pool sp (under a.context side c.args.above false a.uncle) a.inner_side c.args.parent true a.tree a.sibling a.stands) in
    let far = far-read c.args.self.now.pool sp a.context side c.args.above false _ a.uncle a.stands _ _ c.links.ensures.links (c.child.ensures ∙ ap (λ s. child_of (not s) c.links.result) left) in
    far-subtree c.args.self.now.pool sp a.context side c.args.above false _ a.uncle a.stands _ far

pub redden-requires : goal.redden-requires
redden-requires g c =
    let (sp, (ns, (deep, (side, b)))) = c.requires in
    let left = c.is_left-left.ensures (node-focus c.args.self.now.pool sp (under b.context side c.args.above false b.uncle) b.inner_side c.args.parent true b.tree b.sibling b.stands) in
    let a = subst (λ s. IsRedTwice c.args.self.now.pool sp ns deep s c.args.above c.args.parent c.args.i) (sym left) b in
    let far = far-read c.args.self.now.pool sp a.context _ c.args.above false _ a.uncle a.stands _ _ c.links.ensures.links c.child.ensures in
    let red = c.is_red.ensures (far-subtree c.args.self.now.pool sp a.context _ c.args.above false _ a.uncle a.stands _ far) ∙ ap redness c.if-is_red.true in
    uncle-reddens c.args.self.now.pool sp ns deep _ c.args.above c.args.parent c.args.i a (IsRed-root a.uncle red)

pub returns-then-is_red-clause-tree : goal.returns-then-is_red-clause-tree
returns-then-is_red-clause-tree g c = λ sp ns deep side b.
    let left = c.is_left-left.ensures (node-focus c.args.self.now.pool sp (under b.context side c.args.above false b.uncle) b.inner_side c.args.parent true b.tree b.sibling b.stands) in
    let a = subst (λ s. IsRedTwice c.args.self.now.pool sp ns deep s c.args.above c.args.parent c.args.i) (sym left) b in
    let far = far-read c.args.self.now.pool sp a.context _ c.args.above false _ a.uncle a.stands _ _ c.links.ensures.links c.child.ensures in
    let red = c.is_red.ensures (far-subtree c.args.self.now.pool sp a.context _ c.args.above false _ a.uncle a.stands _ far) ∙ ap redness c.if-is_red.true in
    let o = IsRed-root a.uncle red in
    let d = a.deep_is in
    goes_on (depth a.context) (omega arith)
    (IsRedAt-reddened c.args.self.now.pool sp ns deep _ c.args.above c.args.parent c.args.i a c.redden.new.self.pool o
    (c.redden.ensures.tree (uncle-reddens c.args.self.now.pool sp ns deep _ c.args.above c.args.parent c.args.i a o)))

pub straighten-requires : goal.straighten-requires
straighten-requires g c =
    let (sp, (ns, (deep, (side, b)))) = c.requires in
    let left = c.is_left-left.ensures (node-focus c.args.self.now.pool sp (under b.context side c.args.above false b.uncle) b.inner_side c.args.parent true b.tree b.sibling b.stands) in
    let a = subst (λ s. IsRedTwice c.args.self.now.pool sp ns deep s c.args.above c.args.parent c.args.i) (sym left) b in
    let far = far-read c.args.self.now.pool sp a.context _ c.args.above false _ a.uncle a.stands _ _ c.links.ensures.links c.child.ensures in
    let black = c.is_red.ensures (far-subtree c.args.self.now.pool sp a.context _ c.args.above false _ a.uncle a.stands _ far) ∙ ap redness c.if-is_red.false in
    (sp, (ns, (c.args.above, record { deep = deep; twice = a; uncle_black = black })))

pub lift-requires : goal.lift-requires
lift-requires g c =
    let (sp, (ns, (deep, (side, b)))) = c.requires in
    let left = c.is_left-left.ensures (node-focus c.args.self.now.pool sp (under b.context side c.args.above false b.uncle) b.inner_side c.args.parent true b.tree b.sibling b.stands) in
    let a = subst (λ s. IsRedTwice c.args.self.now.pool sp ns deep s c.args.above c.args.parent c.args.i) (sym left) b in
    let far = far-read c.args.self.now.pool sp a.context _ c.args.above false _ a.uncle a.stands _ _ c.links.ensures.links c.child.ensures in
    let black = c.is_red.ensures (far-subtree c.args.self.now.pool sp a.context _ c.args.above false _ a.uncle a.stands _ far) ∙ ap redness c.if-is_red.false in
    outer-lifts c.straighten.new.self.pool sp ns _ c.args.above (c.straighten.ensures.tree sp ns c.args.above (record { deep = deep; twice = a; uncle_black = black }))

pub returns-clause-tree : goal.returns-clause-tree
returns-clause-tree g c = λ sp ns deep side b.
    let left = c.is_left-left.ensures (node-focus c.args.self.now.pool sp (under b.context side c.args.above false b.uncle) b.inner_side c.args.parent true b.tree b.sibling b.stands) in
    let a = subst (λ s. IsRedTwice c.args.self.now.pool sp ns deep s c.args.above c.args.parent c.args.i) (sym left) b in
    let far = far-read c.args.self.now.pool sp a.context _ c.args.above false _ a.uncle a.stands _ _ c.links.ensures.links c.child.ensures in
    let black = c.is_red.ensures (far-subtree c.args.self.now.pool sp a.context _ c.args.above false _ a.uncle a.stands _ far) ∙ ap redness c.if-is_red.false in
    let o = c.straighten.ensures.tree sp ns c.args.above (record { deep = deep; twice = a; uncle_black = black }) in
    done refl (IsTreeBalanced-outer c.straighten.new.self.pool sp ns _ c.args.above o c.lift.new.self.pool (c.lift.ensures.tree (outer-lifts c.straighten.new.self.pool sp ns _ c.args.above o)) (root_redness-le o.tree))
