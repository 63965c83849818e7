use Rattle.std.proofs.Common.{◌≡◌, ◌+◌, ◌-◌, ◌<◌, length, arith}
use Rattle.contour_walk.proofs.Linear.PassedPlaces.{next_is_back, next_is_back_round}
use Rattle.contour_walk.proofs.walk.ways.next_back.Goals as goal

pub returns-then-behind-gt0-clause-some : goal.returns-then-behind-gt0-clause-some
returns-then-behind-gt0-clause-some g c =
    let found = c.last_back-behind in
    let more = c.if-behind-gt0.true in
    let behind : found.result ≡ found.result - 1 + 1 = omega (arith, more) in
    let before : found.result - 1 < c.args.from = omega (arith, more, found.ensures.within) in
    next_is_back c.args.states.now c.args.spokes.now c.args.from (found.result - 1) c.requires.within c.requires.passed before (found.ensures.left (found.result - 1) behind)
    (λ i l m. found.ensures.passed i (omega (arith, l, behind)) m)

pub returns-then-behind-gt0-2-clause-some : goal.returns-then-behind-gt0-2-clause-some
returns-then-behind-gt0-2-clause-some g c =
    let none = c.last_back-behind in
    let found = c.last_back-behind-2 in
    let more = c.if-behind-gt0-2.true in
    let behind : found.result ≡ found.result - 1 + 1 = omega (arith, more) in
    let inside : found.result - 1 < length c.args.spokes.now = omega (arith, more, found.ensures.within) in
    next_is_back_round c.args.states.now c.args.spokes.now c.args.from (found.result - 1) c.requires.within c.requires.passed inside (found.ensures.left (found.result - 1) behind)
    (λ i l m. none.ensures.passed i (omega (arith, l, c.if-behind-gt0.false)) m) (λ i l m. found.ensures.passed i (omega (arith, l, behind)) m)
