use Rattle.std.proofs.Common.{◌∙◌}
use Rattle.plane_base.proofs.segment.XSegment.order.Goals as goal

pub returns-clause-is : goal.returns-clause-is
returns-clause-is g c = c.cmp.ensures ∙ simp g.met.I.OverlayInt.ordered

pub returns-clause-agrees : goal.returns-clause-agrees
returns-clause-agrees g c = c.cmp.ensures
