use Rattle.std.proofs.Common.{◌-◌, length}
use Rattle.polygon_overlay.proofs.point_location.sample.are_outlines_dense.Given as goal

abbrev pub decreases-loop-at : goal.decreases-loop-at
decreases-loop-at g l = length l.points - l.at
