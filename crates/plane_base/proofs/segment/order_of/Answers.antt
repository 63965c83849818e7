use Rattle.std.proofs.Common.{◌∙◌}
use Rattle.plane_base.proofs.segment.order_of.Goals as goal

pub returns : goal.returns
returns g c = c.cmp.ensures ∙ g.met.I.OverlayInt.ordered c.args.a c.args.b
