use Rattle.plane_base.proofs.Facts.Columns.Verticals.{vertical_is_beside}
use Rattle.plane_base.proofs.segment_laws.vertical_is_beside.Goals as goal

pub returns : goal.returns
returns c = vertical_is_beside
