use Rattle.std.proofs.Common.{arith}
use Rattle.contour_walk.proofs.Linear.PassedPlaces.{next_is_ahead, next_is_round}
use Rattle.contour_walk.proofs.walk.ways.next_ahead.Goals as goal

pub returns-then-place-spokes-clause-some : goal.returns-then-place-spokes-clause-some
returns-then-place-spokes-clause-some g c =
    let found = c.first_ahead-place in
    let inside = c.if-place-spokes.true in
    next_is_ahead c.args.states.now c.args.spokes.now c.args.from found.result c.requires.within c.requires.passed inside (found.ensures.left inside) found.ensures.later found.ensures.passed

pub returns-then-place-spokes-2-clause-some : goal.returns-then-place-spokes-2-clause-some
returns-then-place-spokes-2-clause-some g c =
    let none = c.first_ahead-place in
    let found = c.first_ahead-place-2 in
    let inside = c.if-place-spokes-2.true in
    next_is_round c.args.states.now c.args.spokes.now c.args.from found.result c.requires.within c.requires.passed inside (found.ensures.left inside)
    (λ i l m. none.ensures.passed i l (omega (arith, m, c.if-place-spokes.false))) found.ensures.passed
