use Rattle.std.proofs.Common.{take}
use Rattle.plane_base.specs.Flat.{AreRangesOf}
use Rattle.plane_base.proofs.flat.are_ranges.Given as goal

-- The ranges before this one lie in the list.
abbrev pub invariant-loop-range : goal.invariant-loop-range
invariant-loop-range l = AreRangesOf l.len (take l.range-index l.ranges)
