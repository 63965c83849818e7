use Rattle.plane_base.proofs.flat.FlatContoursBuffer.new.Goals as goal

pub returns-clause-ranges : goal.returns-clause-ranges
returns-clause-ranges g c = cc
