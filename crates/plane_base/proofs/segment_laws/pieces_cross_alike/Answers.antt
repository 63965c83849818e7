use Rattle.plane_base.proofs.Facts.Crossings.Pieces.{pieces_cross_alike}
use Rattle.plane_base.proofs.segment_laws.pieces_cross_alike.Goals as goal

pub returns : goal.returns
returns c = pieces_cross_alike
