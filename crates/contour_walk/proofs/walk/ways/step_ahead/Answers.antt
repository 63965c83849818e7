use Rattle.std.proofs.lemmas.Grind.{common_steps}
use Rattle.std.proofs.Common.{◌<◌, ◌≤◌, false, length, get_or, refl, sym, ◌∙◌, arith}
use Rattle.segment_arrangement.specs.declared.graph.VisitState.TheVariants.{Unvisited}
use Rattle.contour_walk.specs.NodeRings.{IsPassed}
use Rattle.contour_walk.proofs.Linear.PassedPlaces.{read_at, ahead_longer, step_further}
use Rattle.contour_walk.proofs.walk.ways.step_ahead.Goals as goal

pub returns-clause-ahead : goal.returns-clause-ahead
returns-clause-ahead g c =
    let spokes = c.args.spokes.now in
    let states = c.args.states.now in
    let ahead = c.args.ahead.now in
    let over = get_or ahead c.args.at 0 in
    let within : over ≤ length spokes = (c.requires.ahead).within c.args.at c.requires.within in
    let more : over < length spokes = omega (arith, within, c.if-over-spokes.false) in
    let gone = read_at states spokes c.requires.inside over c.index-spokes-over.result more Unvisited false (sym c.is_left.ensures ∙ c.if-is_left.false) in
    ahead_longer (length spokes) (IsPassed states spokes) ahead c.requires.ahead c.args.at over c.requires.within refl c.requires.passed more gone (get_or ahead over 0) refl

pub returns-clause-passed : goal.returns-clause-passed
returns-clause-passed g c =
    let spokes = c.args.spokes.now in
    let states = c.args.states.now in
    let ahead = c.args.ahead.now in
    let over = get_or ahead c.args.at 0 in
    let within : over ≤ length spokes = (c.requires.ahead).within c.args.at c.requires.within in
    let more : over < length spokes = omega (arith, within, c.if-over-spokes.false) in
    let gone = read_at states spokes c.requires.inside over c.index-spokes-over.result more Unvisited false (sym c.is_left.ensures ∙ c.if-is_left.false) in
    step_further (length spokes) (IsPassed states spokes) ahead c.requires.ahead c.args.at over c.requires.within refl c.requires.passed more gone (get_or ahead over 0) refl

pub offset_bounds-ahead-at : goal.offset_bounds-ahead-at
offset_bounds-ahead-at g c = grind (arith, common_steps)

pub bounds-ahead-at : goal.bounds-ahead-at
bounds-ahead-at g c = grind (arith, common_steps)

pub offset_bounds-spokes-over : goal.offset_bounds-spokes-over
offset_bounds-spokes-over g c = grind (arith, common_steps)

pub bounds-spokes-over : goal.bounds-spokes-over
bounds-spokes-over g c = grind (arith, common_steps)

pub bounds-spokes-over-else-over-spokes : goal.bounds-spokes-over-else-over-spokes
bounds-spokes-over-else-over-spokes g c = grind (arith, common_steps)

pub bounds-states-spokes : goal.bounds-states-spokes
bounds-states-spokes g c = grind (arith, common_steps)

pub returns-then-over-spokes-clause-ahead : goal.returns-then-over-spokes-clause-ahead
returns-then-over-spokes-clause-ahead g c = grind (arith, common_steps)

pub returns-then-over-spokes-clause-later : goal.returns-then-over-spokes-clause-later
returns-then-over-spokes-clause-later g c = grind (arith, common_steps)

pub returns-then-over-spokes-clause-within : goal.returns-then-over-spokes-clause-within
returns-then-over-spokes-clause-within g c = grind (arith, common_steps)

pub returns-then-over-spokes-clause-passed : goal.returns-then-over-spokes-clause-passed
returns-then-over-spokes-clause-passed g c = grind (arith, common_steps)

pub offset_bounds-ahead-over : goal.offset_bounds-ahead-over
offset_bounds-ahead-over g c = grind (arith, common_steps)

pub bounds-ahead-over : goal.bounds-ahead-over
bounds-ahead-over g c = grind (arith, common_steps)

pub offset_bounds-ahead-at-2 : goal.offset_bounds-ahead-at-2
offset_bounds-ahead-at-2 g c = grind (arith, common_steps)

pub bounds-ahead-at-2 : goal.bounds-ahead-at-2
bounds-ahead-at-2 g c = grind (arith, common_steps)

pub returns-clause-later : goal.returns-clause-later
returns-clause-later g c = grind (arith, common_steps)

pub returns-clause-within : goal.returns-clause-within
returns-clause-within g c = grind (arith, common_steps)
