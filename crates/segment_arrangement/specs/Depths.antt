-- Numbers of windings.
use Rattle.std.specs.Prelude.{ℤ}
use Rattle.segment_arrangement.specs.declared.depth.Depth.{Depth}

-- how many windings a depth is
abbrev pub windings_of : Depth → ℤ
windings_of depth = depth.windings
