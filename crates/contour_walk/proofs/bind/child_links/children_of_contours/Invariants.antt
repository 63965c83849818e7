use Rattle.std.proofs.Common.{◌≡◌, ◌<◌, ℕ, take, length, get_or}
use Rattle.contour_walk.specs.Hierarchy.{children_of}
use Rattle.contour_walk.proofs.bind.child_links.children_of_contours.Given as goal

-- Each contour has those of the shapes before this one that lie in it.
abbrev pub invariant-loop-child : goal.invariant-loop-child
invariant-loop-child l =
    (length l.children.items ≡ l.many) × ((m : ℕ) (d : _) → m < l.many → (get_or l.children.items m d).items ≡ children_of m 0 (take l.child l.parents))
