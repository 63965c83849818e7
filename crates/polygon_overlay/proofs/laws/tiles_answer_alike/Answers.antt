use Rattle.plane_base.specs.Counts.{boolean}
use Rattle.polygon_overlay.proofs.Answering.GroupLaws.{tiles_answer_alike}
use Rattle.polygon_overlay.proofs.laws.tiles_answer_alike.Goals as goal

pub returns : goal.returns
returns c = tiles_answer_alike c.order_does_not_matter.ensures c.groups_are_overlaid_alone.ensures (λ precision. c.groups_redraw_alone.ensures boolean precision)
