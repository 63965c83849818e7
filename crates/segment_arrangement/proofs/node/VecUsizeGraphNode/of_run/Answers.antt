use Rattle.std.proofs.Common.{◌≤◌, ◌-◌, ◌++◌, ◌∷◌, [], length, map, sym, ◌∙◌, arith}
use Rattle.std.proofs.lemmas.List.{take_more, take_all}
use Rattle.std.specs.List.{range_with_len}
use Rattle.segment_arrangement.specs.LinkEndViews.{end_of}
use Rattle.segment_arrangement.proofs.Graphs.NodeSteps.{run_length}
use Rattle.segment_arrangement.proofs.node.VecUsizeGraphNode.of_run.Goals as goal

pub loop-at-preserved : goal.loop-at-preserved
loop-at-preserved g c =
    let place = λ (n : g.row.N.Denot). (end_of g.N.EndNumber.half g.N.EndNumber.room g.N.EndNumber.number n).place in
    let xs = range_with_len c.args.from (c.args.to - c.args.from) ++ map place c.args.run.now in
    let here = c.place_at.ensures 0 in
    c.in_ok-push.ensures.items
    ∙ ((λ i. c.loop-at.invariant i ++ sym here i ∷ [])
    ∙ sym (take_more xs c.loop-at.at 0 (rw (run_length c.args.from (c.args.to - c.args.from) place c.args.run.now) c.loop-at-test.true)))

pub returns-clause-is : goal.returns-clause-is
returns-clause-is g c =
    let place = λ (n : g.row.N.Denot). (end_of g.N.EndNumber.half g.N.EndNumber.room g.N.EndNumber.number n).place in
    let xs = range_with_len c.args.from (c.args.to - c.args.from) ++ map place c.args.run.now in
    let over : length xs ≤ c.loop-at.at = omega (arith, run_length c.args.from (c.args.to - c.args.from) place c.args.run.now, c.loop-at-test.false) in
    c.loop-at.invariant ∙ take_all c.loop-at.at xs over
