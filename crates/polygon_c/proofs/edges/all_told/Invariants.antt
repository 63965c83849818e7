use Rattle.std.proofs.Common.{◌≡◌, map, take, Some}
use Rattle.polygon_c.proofs.edges.all_told.Given as goal

-- The numbers so far are those that were told.
abbrev pub invariant-loop-one : goal.invariant-loop-one
invariant-loop-one l = map Some l.numbers.items ≡ take l.one-index l.told
