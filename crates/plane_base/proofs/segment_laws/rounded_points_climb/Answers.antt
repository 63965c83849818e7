use Rattle.plane_base.proofs.Facts.Crossings.Staircases.{rounded_climb}
use Rattle.plane_base.proofs.segment_laws.rounded_points_climb.Goals as goal

pub returns : goal.returns
returns c = rounded_climb
