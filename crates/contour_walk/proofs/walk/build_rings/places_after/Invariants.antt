use Rattle.std.proofs.Common.{◌≡◌, ℕ, ◌+◌, ◌<◌, length, get_or}
use Rattle.contour_walk.proofs.walk.build_rings.places_after.Given as goal

-- The numbers before this one are there.
abbrev pub invariant-loop-i : goal.invariant-loop-i
invariant-loop-i l = (length l.places.items ≡ l.i) × ((j : ℕ) → j < l.i → get_or l.places.items j 0 ≡ l.first + j)
