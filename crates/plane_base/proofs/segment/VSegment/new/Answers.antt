use Rattle.std.proofs.Common.{refl}
use Rattle.plane_base.proofs.segment.VSegment.new.Goals as goal

pub returns-clause-a : goal.returns-clause-a
returns-clause-a g c = refl

pub returns-clause-b : goal.returns-clause-b
returns-clause-b g c = refl
