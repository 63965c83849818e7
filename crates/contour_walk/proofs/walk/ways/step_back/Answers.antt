use Rattle.std.proofs.lemmas.Grind.{common_steps}
use Rattle.std.proofs.Common.{◌-◌, ◌<◌, ◌≤◌, false, length, get_or, refl, sym, ◌∙◌, arith}
use Rattle.segment_arrangement.specs.declared.graph.VisitState.TheVariants.{Unvisited}
use Rattle.contour_walk.specs.NodeRings.{IsPassed}
use Rattle.contour_walk.proofs.Linear.PassedPlaces.{read_at, back_longer, step_back_further}
use Rattle.contour_walk.proofs.walk.ways.step_back.Goals as goal

pub returns-clause-back : goal.returns-clause-back
returns-clause-back g c =
    let spokes = c.args.spokes.now in
    let states = c.args.states.now in
    let back = c.args.back.now in
    let over = get_or back c.args.at 0 in
    let earlier : over ≤ c.args.at = (c.requires.back).earlier c.args.at c.requires.within in
    let more : 0 < over = omega (arith, c.if-over-eq0.false) in
    let before : over - 1 < length spokes = omega (arith, earlier, c.requires.within) in
    let gone = read_at states spokes c.requires.inside (over - 1) c.index-spokes-over.result before Unvisited false (sym c.is_left.ensures ∙ c.if-is_left.false) in
    back_longer (length spokes) (IsPassed states spokes) back c.requires.back c.args.at over c.requires.within refl c.requires.passed more gone (get_or back (over - 1) 0) refl

pub returns-clause-passed : goal.returns-clause-passed
returns-clause-passed g c =
    let spokes = c.args.spokes.now in
    let states = c.args.states.now in
    let back = c.args.back.now in
    let over = get_or back c.args.at 0 in
    let earlier : over ≤ c.args.at = (c.requires.back).earlier c.args.at c.requires.within in
    let more : 0 < over = omega (arith, c.if-over-eq0.false) in
    let before : over - 1 < length spokes = omega (arith, earlier, c.requires.within) in
    let gone = read_at states spokes c.requires.inside (over - 1) c.index-spokes-over.result before Unvisited false (sym c.is_left.ensures ∙ c.if-is_left.false) in
    step_back_further (length spokes) (IsPassed states spokes) back c.requires.back c.args.at over c.requires.within refl c.requires.passed more gone (get_or back (over - 1) 0) refl

pub offset_bounds-back-at : goal.offset_bounds-back-at
offset_bounds-back-at g c = grind (arith, common_steps)

pub bounds-back-at : goal.bounds-back-at
bounds-back-at g c = grind (arith, common_steps)

pub overflow_sub-over : goal.overflow_sub-over
overflow_sub-over g c = grind (arith, common_steps)

pub offset_bounds-spokes-over : goal.offset_bounds-spokes-over
offset_bounds-spokes-over g c = grind (arith, common_steps)

pub bounds-spokes-over : goal.bounds-spokes-over
bounds-spokes-over g c = grind (arith, common_steps)

pub bounds-spokes-over-else-over-eq0 : goal.bounds-spokes-over-else-over-eq0
bounds-spokes-over-else-over-eq0 g c = grind (arith, common_steps)

pub bounds-states-spokes : goal.bounds-states-spokes
bounds-states-spokes g c = grind (arith, common_steps)

pub returns-then-over-eq0-clause-back : goal.returns-then-over-eq0-clause-back
returns-then-over-eq0-clause-back g c = grind (arith, common_steps)

pub returns-then-over-eq0-clause-earlier : goal.returns-then-over-eq0-clause-earlier
returns-then-over-eq0-clause-earlier g c = grind (arith, common_steps)

pub overflow_sub-further : goal.overflow_sub-further
overflow_sub-further g c = grind (arith, common_steps)

pub offset_bounds-back-over : goal.offset_bounds-back-over
offset_bounds-back-over g c = grind (arith, common_steps)

pub bounds-back-over : goal.bounds-back-over
bounds-back-over g c = grind (arith, common_steps)

pub offset_bounds-back-at-2 : goal.offset_bounds-back-at-2
offset_bounds-back-at-2 g c = grind (arith, common_steps)

pub bounds-back-at-2 : goal.bounds-back-at-2
bounds-back-at-2 g c = grind (arith, common_steps)

pub returns-clause-earlier : goal.returns-clause-earlier
returns-clause-earlier g c = grind (arith, common_steps)
