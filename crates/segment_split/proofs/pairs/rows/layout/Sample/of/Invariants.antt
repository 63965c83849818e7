use Rattle.std.proofs.Common.{◌-◌, length}
use Rattle.segment_split.proofs.pairs.rows.layout.Sample.of.Given as goal

abbrev pub decreases-loop-i : goal.decreases-loop-i
decreases-loop-i g l = length l.segments - l.i
