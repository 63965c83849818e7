use Rattle.std.proofs.Common.{◌≡◌, ◌<◌, ℕ, length, get_or}
use Rattle.contour_walk.proofs.bind.same_owner.Given as goal

-- All owners so far are the same.
abbrev pub invariant-loop-contour : goal.invariant-loop-contour
invariant-loop-contour l = (length l.owners.items ≡ l._contour) × ((n : ℕ) (d : _) → n < l._contour → get_or l.owners.items n d ≡ l.owner)
