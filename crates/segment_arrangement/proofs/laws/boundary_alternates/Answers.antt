use Rattle.segment_arrangement.proofs.Facts.Rings.{boundary_alternates}
use Rattle.segment_arrangement.proofs.laws.boundary_alternates.Goals as goal

pub returns : goal.returns
returns c = boundary_alternates
