use Rattle.std.proofs.Common.{◌≡◌, map, take}
use Rattle.polygon_strings.specs.ClipWalks.{steps_of}
use Rattle.polygon_strings.proofs.string.clip_walk.steps_of_links.Given as goal

-- The links before this one have their steps.
abbrev pub invariant-loop-link : goal.invariant-loop-link
invariant-loop-link g l = l.left.items ≡ map (λ link. steps_of link.fill) (take l.link-index l.links)
