use Rattle.std.proofs.Common.{◌≡◌, map, take}
use Rattle.polygon_strings.specs.SliceWalks.{half_steps_of}
use Rattle.polygon_strings.proofs.string.slice_walk.steps_of_halves.Given as goal

-- The links before this one have their steps.
abbrev pub invariant-loop-link : goal.invariant-loop-link
invariant-loop-link g l = l.left.items ≡ map (λ link. half_steps_of l.clockwise link.fill) (take l.link-index l.links)
