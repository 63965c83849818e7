use Rattle.plane_base.proofs.segment.VSegment.segment.Goals as goal

pub returns-clause-is : goal.returns-clause-is
returns-clause-is g c = c.self.view_is
