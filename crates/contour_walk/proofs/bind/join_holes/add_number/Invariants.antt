use Rattle.std.proofs.Common.{◌≡◌, ◌++◌, replicate}
use Rattle.contour_walk.proofs.bind.join_holes.add_number.Given as goal

-- The number was added so many times.
abbrev pub invariant-loop-time : goal.invariant-loop-time
invariant-loop-time l = l.numbers.items ≡ l.fn.numbers.items ++ replicate l._time l.number
