use Rattle.std.proofs.Common.{false, true}
use Rattle.i_tree.proofs.Trees.Reads.{node-within}
use Rattle.i_tree.proofs.Trees.Firsts.{root-opens, removed-itself, next-out, removed-next}
use Rattle.i_tree.proofs.Trees.Removals.{opened-stands, left-read, right-read, left-missing, right-missing, right-focus}
use Rattle.i_tree.proofs.tree.pool.Pool.remove.Goals as goal

pub links-node-requires : goal.links-node-requires
links-node-requires g c =
    let (sp, (k, (t, (filled, e)))) = c.requires.stands in
    let o = root-opens t c.args.i e c.requires.there in
    node-within c.args.self.now.pool sp k true c.args.i o.red o.left o.right (opened-stands c.args.self.now.pool sp k t c.args.i filled o)

pub take_out-requires : goal.take_out-requires
take_out-requires g c =
    let (sp, (k, (t, (filled, e)))) = c.requires.stands in
    let o = root-opens t c.args.i e c.requires.there in
    left-missing c.args.self.now.pool sp k t c.args.i filled o _ c.links-node.ensures.links c.if-node-eq-NO_NODE.true

pub returns-then-node-eq-NO_NODE-clause-tree : goal.returns-then-node-eq-NO_NODE-clause-tree
returns-then-node-eq-NO_NODE-clause-tree g c = λ sp k t filled e.
    let o = root-opens t c.args.i e c.requires.there in
    removed-itself c.take_out.new.self.pool sp k c.args.i o.red true o.right t
    (left-read c.args.self.now.pool sp k t c.args.i filled o _ c.links-node.ensures.links c.if-node-eq-NO_NODE.true)
    (c.take_out.ensures.tree (left-missing c.args.self.now.pool sp k t c.args.i filled o _ c.links-node.ensures.links c.if-node-eq-NO_NODE.true))

pub take_out-requires-then-node-eq-NO_NODE-2 : goal.take_out-requires-then-node-eq-NO_NODE-2
take_out-requires-then-node-eq-NO_NODE-2 g c =
    let (sp, (k, (t, (filled, e)))) = c.requires.stands in
    let o = root-opens t c.args.i e c.requires.there in
    right-missing c.args.self.now.pool sp k t c.args.i filled o _ c.links-node.ensures.links c.if-node-eq-NO_NODE-2.true

pub returns-then-node-eq-NO_NODE-2-clause-tree : goal.returns-then-node-eq-NO_NODE-2-clause-tree
returns-then-node-eq-NO_NODE-2-clause-tree g c = λ sp k t filled e.
    let o = root-opens t c.args.i e c.requires.there in
    removed-itself c.take_out-then-node-eq-NO_NODE-2.new.self.pool sp k c.args.i o.red false o.left t
    (right-read c.args.self.now.pool sp k t c.args.i filled o _ c.links-node.ensures.links c.if-node-eq-NO_NODE-2.true)
    (c.take_out-then-node-eq-NO_NODE-2.ensures.tree (right-missing c.args.self.now.pool sp k t c.args.i filled o _ c.links-node.ensures.links c.if-node-eq-NO_NODE-2.true))

pub first-next-requires : goal.first-next-requires
first-next-requires g c =
    let (sp, (k, (t, (filled, e)))) = c.requires.stands in
    let o = root-opens t c.args.i e c.requires.there in
    right-focus c.args.self.now.pool sp k t c.args.i filled o _ c.links-node.ensures.links c.if-node-eq-NO_NODE-2.false

pub take_out-requires-2 : goal.take_out-requires-2
take_out-requires-2 g c =
    let (sp, (k, (t, (filled, e)))) = c.requires.stands in
    let o = root-opens t c.args.i e c.requires.there in
    let f = right-focus c.args.self.now.pool sp k t c.args.i filled o _ c.links-node.ensures.links c.if-node-eq-NO_NODE-2.false in
    next-out c.args.self.now.pool sp k c.args.i t o filled _ (c.first-next.ensures f)

pub returns-clause-tree : goal.returns-clause-tree
returns-clause-tree g c = λ sp k t filled e.
    let o = root-opens t c.args.i e c.requires.there in
    let f = right-focus c.args.self.now.pool sp k t c.args.i filled o _ c.links-node.ensures.links c.if-node-eq-NO_NODE-2.false in
    let first = c.first-next.ensures f in
    removed-next c.args.self.now.pool sp k c.args.i t o filled _ first c.take_out-2.new.self.pool (c.take_out-2.ensures.tree (next-out c.args.self.now.pool sp k c.args.i t o filled _ first))
