use Rattle.std.proofs.lemmas.Grind.{common_steps}
use Rattle.std.proofs.Common.{◌≡◌, Less, sym, ◌∙◌, arith}
use Rattle.segment_arrangement.specs.LinkEnds.{End, end_order}
use Rattle.segment_arrangement.specs.LinkEndViews.{end_of}
use Rattle.segment_arrangement.proofs.Graphs.EndNumbers.{numbers_order}
use Rattle.segment_arrangement.proofs.Graphs.NodeSteps.{point_not_after, point_not_before}
use Rattle.segment_arrangement.proofs.node.lesser.Goals as goal

pub returns-in-Less-clause-not_after_other : goal.returns-in-Less-clause-not_after_other
returns-in-Less-clause-not_after_other g c =
    let e : End = end_of g.N.EndNumber.half g.N.EndNumber.room g.N.EndNumber.number c.args.one in
    let f : End = end_of g.N.EndNumber.half g.N.EndNumber.room g.N.EndNumber.number c.args.other in
    let order : g.N.Ord.cmp c.args.one c.args.other ≡ end_order e f =
    g.met.N.EndNumber.ordered c.args.one c.args.other ∙ numbers_order g.N.EndNumber.half g.N.EndNumber.room (g.N.EndNumber.number c.args.one) (g.N.EndNumber.number c.args.other) g.met.N.EndNumber.wide g.met.N.EndNumber.some in
    let less : end_order e f ≡ Less = sym order ∙ (sym c.cmp.ensures ∙ c.in-Less.is) in
    point_not_after e f (λ h. cc)

pub returns-in-Greater-clause-not_after_one : goal.returns-in-Greater-clause-not_after_one
returns-in-Greater-clause-not_after_one g c =
    let e : End = end_of g.N.EndNumber.half g.N.EndNumber.room g.N.EndNumber.number c.args.one in
    let f : End = end_of g.N.EndNumber.half g.N.EndNumber.room g.N.EndNumber.number c.args.other in
    let order : g.N.Ord.cmp c.args.one c.args.other ≡ end_order e f =
    g.met.N.EndNumber.ordered c.args.one c.args.other ∙ numbers_order g.N.EndNumber.half g.N.EndNumber.room (g.N.EndNumber.number c.args.one) (g.N.EndNumber.number c.args.other) g.met.N.EndNumber.wide g.met.N.EndNumber.some in
    point_not_before e f (sym order ∙ (sym c.cmp.ensures ∙ c.in-Greater.is))

pub returns-in-Less-clause-not_after_one : goal.returns-in-Less-clause-not_after_one
returns-in-Less-clause-not_after_one g c = grind (arith, common_steps)

pub returns-in-Less-clause-either : goal.returns-in-Less-clause-either
returns-in-Less-clause-either g c = grind (arith, common_steps)

pub returns-in-Equal-clause-not_after_one : goal.returns-in-Equal-clause-not_after_one
returns-in-Equal-clause-not_after_one g c = grind (arith, common_steps)

pub returns-in-Equal-clause-either : goal.returns-in-Equal-clause-either
returns-in-Equal-clause-either g c = grind (arith, common_steps)

pub returns-in-Greater-clause-not_after_other : goal.returns-in-Greater-clause-not_after_other
returns-in-Greater-clause-not_after_other g c = grind (arith, common_steps)

pub returns-in-Greater-clause-either : goal.returns-in-Greater-clause-either
returns-in-Greater-clause-either g c = grind (arith, common_steps)
