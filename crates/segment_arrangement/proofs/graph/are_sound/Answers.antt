use Rattle.std.proofs.Common.{◌≤◌, length, take, sym, rules}
use Rattle.std.proofs.lemmas.List.{take_all}
use Rattle.std.proofs.lemmas.List.Elements.{All-more, All-same}
use Rattle.segment_arrangement.specs.GraphViews.{IsSound}
use Rattle.segment_arrangement.proofs.graph.are_sound.Goals as goal
use borrow.Author.Tests.{leb-true}

pub loop-node-preserved : goal.loop-node-preserved
loop-node-preserved c =
    let nodes = c.args.nodes.now in
    All-more (IsSound (length nodes ≤ c.args.links)) nodes c.loop-node.node-index c.node-item.result c.loop-node-test.true c.loop-node.invariant
    (λ cross. let h = c.if-not-is_sound.ensures.0 (search rules) (rw (sym c.node-item.is) at cross) in rw (sym c.node-item.is) (h.0, leb-true _ _ h.1))

pub returns : goal.returns
returns c =
    let nodes = c.args.nodes.now in
    (λ _. All-same (IsSound (length nodes ≤ c.args.links)) nodes (take c.loop-node.node-index nodes) (sym (take_all c.loop-node.node-index nodes (search rules))) c.loop-node.invariant, λ _. search rules)
