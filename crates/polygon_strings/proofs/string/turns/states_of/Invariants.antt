use Rattle.std.proofs.Common.{◌≡◌, map, take}
use Rattle.polygon_strings.specs.NodeTurns.{half_state}
use Rattle.polygon_strings.proofs.string.turns.states_of.Given as goal

-- The links before this one are seen.
abbrev pub invariant-loop-link : goal.invariant-loop-link
invariant-loop-link g l = l.states.items ≡ map (λ k. half_state k.fill) (take l.link-index l.links)
