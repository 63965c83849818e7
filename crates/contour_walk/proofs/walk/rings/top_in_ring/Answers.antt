use Rattle.std.proofs.Common.{◌≡◌, ◌+◌, ◌-◌, ◌<◌, length, ap, ◌∙◌, arith, subst}
use Rattle.std.proofs.lemmas.List.{get_or_default}
use Rattle.contour_walk.specs.NodeRings.{IsPassed}
use Rattle.contour_walk.proofs.walk.rings.top_in_ring.Goals as goal

pub returns-clause-some : goal.returns-clause-some
returns-clause-some g c =
    let found = c.last_back-behind in
    let spokes = c.args.ring.now.spokes.items in
    let more : 0 < found.result = omega (arith, c.if-behind-eq0.false) in
    let behind : found.result ≡ found.result - 1 + 1 = omega (arith, more) in
    let inside : found.result - 1 < length spokes = omega (arith, more, found.ensures.within, c.requires.starts) in (
      found.result - 1,
      omega (arith, more, found.ensures.within),
      rw c.deref.ensures.value at (found.ensures.left (found.result - 1) behind),
      (λ i l m. (rw c.deref.ensures.value at found.ensures.passed) i (omega (arith, l, behind)) m),
      (λ d. ap (λ s. s.place) (c.index.ensures ∙ get_or_default spokes (found.result - 1) c.index.result.now d inside)),
    )

pub last_back-behind-requires-clause-inside : goal.last_back-behind-requires-clause-inside
last_back-behind-requires-clause-inside g c = rw c.deref.ensures.value c.requires.inside

pub returns-clause-none : goal.returns-clause-none
returns-clause-none g c = λ e i l. absurd (cc)

pub returns-then-behind-eq0-clause-none : goal.returns-then-behind-eq0-clause-none
returns-then-behind-eq0-clause-none g c = λ e i l.
    subst (λ spokes. IsPassed c.args.states.now spokes i) c.deref.ensures.value (c.last_back-behind.ensures.passed i (omega (arith, c.if-behind-eq0.true)) l)
