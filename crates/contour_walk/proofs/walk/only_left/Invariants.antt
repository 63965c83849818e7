use Rattle.std.proofs.Common.{◌≡◌, take}
use Rattle.contour_walk.specs.LinearWalks.{left_places}
use Rattle.contour_walk.proofs.Linear.Alone.{place_found}
use Rattle.contour_walk.proofs.walk.only_left.Given as goal

-- At most one is left of those before this one.
abbrev pub invariant-loop-i : goal.invariant-loop-i
invariant-loop-i l = left_places l.states (take l.i l.places) ≡ place_found l.found
