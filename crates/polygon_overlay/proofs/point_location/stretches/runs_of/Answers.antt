use Rattle.std.proofs.Common.{arith}
use Rattle.polygon_overlay.proofs.point_location.stretches.runs_of.Goals as goal

pub returns : goal.returns
returns c = omega arith
