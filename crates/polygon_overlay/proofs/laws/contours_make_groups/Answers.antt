use Rattle.polygon_overlay.proofs.Answering.GroupLaws.{contours_make_groups}
use Rattle.polygon_overlay.proofs.laws.contours_make_groups.Goals as goal

pub returns : goal.returns
returns c = contours_make_groups
