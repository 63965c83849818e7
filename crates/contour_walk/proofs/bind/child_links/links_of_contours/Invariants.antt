use Rattle.std.proofs.Common.{◌≡◌, ◌<◌, ℕ, List, take, length, get_or}
use Rattle.std.specs.Prelude.{Option}
use Rattle.contour_walk.specs.Hierarchy.{children_of, links_from}
use Rattle.contour_walk.proofs.bind.child_links.links_of_contours.Given as goal

-- The links of the contours before this one stand there.
abbrev pub invariant-loop-contour : goal.invariant-loop-contour
invariant-loop-contour l =
    (parents : List (Option ℕ)) → ((m : ℕ) (d : _) → m < length l.children → (get_or l.children m d).items ≡ children_of m 0 parents)
    → l.links.items ≡ links_from parents 0 (take l.contour l.numbers)
