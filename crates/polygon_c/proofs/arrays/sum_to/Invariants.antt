use Rattle.std.proofs.Common.{◌≡◌, ◌+◌, drop, sum}
use Rattle.polygon_c.proofs.arrays.sum_to.Given as goal

-- What is left of the number is to the lengths to come as the number is to all of them.
abbrev pub invariant-loop-length : goal.invariant-loop-length
invariant-loop-length l = sum (drop l.length-index l.lengths) + l.count ≡ sum l.lengths + l.left
