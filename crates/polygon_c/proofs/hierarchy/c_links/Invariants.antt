use Rattle.std.proofs.Common.{◌≡◌, map, take}
use Rattle.polygon_c.specs.Nesting.{c_link}
use Rattle.polygon_c.proofs.hierarchy.c_links.Given as goal

-- The links so far are those before this one.
abbrev pub invariant-loop-link : goal.invariant-loop-link
invariant-loop-link l = l.found.items ≡ map c_link (take l.link-index l.links)
