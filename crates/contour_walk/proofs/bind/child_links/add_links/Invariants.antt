use Rattle.std.proofs.Common.{◌≡◌, ◌++◌, map, take}
use Rattle.contour_walk.specs.Hierarchy.{link_to}
use Rattle.contour_walk.proofs.bind.child_links.add_links.Given as goal

-- The links to the children before this place are added.
abbrev pub invariant-loop-place : goal.invariant-loop-place
invariant-loop-place l = l.links.items ≡ l.fn.links.items ++ map (link_to l.shape l.contour) (take l.place l.children)
