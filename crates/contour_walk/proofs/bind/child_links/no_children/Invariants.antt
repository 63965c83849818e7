use Rattle.std.proofs.Common.{◌≡◌, ◌<◌, ℕ, [], length, get_or}
use Rattle.contour_walk.proofs.bind.child_links.no_children.Given as goal

-- The lists so far are empty.
abbrev pub invariant-loop-contour : goal.invariant-loop-contour
invariant-loop-contour l =
    (length l.children.items ≡ l._contour) × ((m : ℕ) (d : _) → m < l._contour → (get_or l.children.items m d).items ≡ [])
