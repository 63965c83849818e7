use Rattle.std.proofs.Common.{◌≡◌, ◌+◌, ◌++◌, drop, sum}
use Rattle.polygon_c.specs.Cuts.{ranges_of}
use Rattle.polygon_c.proofs.arrays.ranges.Given as goal

-- The ranges so far and those of the lengths to come are all of them.
abbrev pub invariant-loop-length : goal.invariant-loop-length
invariant-loop-length l = record {
  laid : l.ranges.items ++ ranges_of l.start (drop l.length-index l.lengths) ≡ ranges_of 0 l.lengths;
  within : l.start + sum (drop l.length-index l.lengths) ≡ sum l.lengths;
}
