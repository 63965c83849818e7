use Rattle.std.proofs.Common.{◌≡◌, map, take}
use Rattle.polygon_c.specs.Relating.{flag}
use Rattle.polygon_c.proofs.contain.flags.Given as goal

-- The flags so far are those of the answers before this one.
abbrev pub invariant-loop-answer : goal.invariant-loop-answer
invariant-loop-answer l = l.flags.items ≡ map flag (take l.answer-index l.answers)
