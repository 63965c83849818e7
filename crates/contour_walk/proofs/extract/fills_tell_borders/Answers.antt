use Rattle.contour_walk.proofs.ExtractionLaws.{fills_tell_borders as told}
use Rattle.contour_walk.proofs.extract.fills_tell_borders.Goals as goal

pub returns : goal.returns
returns c = told
