use Rattle.std.proofs.Common.{[], refl, ◌∙◌, arith}
use Rattle.i_tree.proofs.Keys.Lists.{so_far-none, so_far-on, so_far-all}
use Rattle.i_tree.proofs.seg.node.empty.Goals as goal

pub loop-node-init : goal.loop-node-init
loop-node-init c = λ n. so_far-none _ _ _ n

pub loop-node-preserved : goal.loop-node-preserved
loop-node-preserved c =
    so_far-on _ (λ list. []) _ c.loop-node.node (λ v. v.items) [] c.loop-node.nodes c.clear.new.self c.index-nodes-node.result
    (omega (arith, c.loop-node.auto.nodes, c.requires, c.loop-node-test.true)) refl c.loop-node.invariant c.clear.ensures.items

pub returns : goal.returns
returns c = λ n h. c.loop-node.invariant n ∙ so_far-all _ _ _ c.loop-node.node n c.loop-node-test.false h
