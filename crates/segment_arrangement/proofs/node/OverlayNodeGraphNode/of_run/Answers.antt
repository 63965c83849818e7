use Rattle.std.proofs.Common.{◌≡◌, ◌-◌, ◌++◌, length, map, sym, ap, ◌∙◌}
use Rattle.std.specs.List.{range_with_len}
use Rattle.segment_arrangement.specs.LinkEndViews.{end_of}
use Rattle.segment_arrangement.proofs.Graphs.NodeSteps.{run_length, both_of_two}
use Rattle.segment_arrangement.proofs.node.OverlayNodeGraphNode.of_run.Goals as goal

pub returns-then-to-from-eq2-clause-is : goal.returns-then-to-from-eq2-clause-is
returns-then-to-from-eq2-clause-is g c =
    let place = λ (n : g.row.N.Denot). (end_of g.N.EndNumber.half g.N.EndNumber.room g.N.EndNumber.number n).place in
    let xs = range_with_len c.args.from (c.args.to - c.args.from) ++ map place c.args.run.now in
    let two : length xs ≡ 2 = run_length c.args.from (c.args.to - c.args.from) place c.args.run.now ∙ c.if-to-from-eq2.true in
    both_of_two xs c.place_at-first.result c.place_at.result two c.place_at-first.ensures c.place_at.ensures

pub returns-clause-form : goal.returns-clause-form
returns-clause-form g c =
    let place = λ (n : g.row.N.Denot). (end_of g.N.EndNumber.half g.N.EndNumber.room g.N.EndNumber.number n).place in
    let many = run_length c.args.from (c.args.to - c.args.from) place c.args.run.now in
    (λ e. absurd (cc), λ e. absurd (c.if-to-from-eq2.false (sym many ∙ (sym (ap length c.in_ok-of_run.ensures.is) ∙ e))))
