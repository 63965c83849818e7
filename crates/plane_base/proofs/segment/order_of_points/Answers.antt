use Rattle.std.proofs.Common.{ap₂, ◌∙◌}
use Rattle.std.specs.Ordering.{ordering_then}
use Rattle.plane_base.proofs.segment.order_of_points.Goals as goal

pub returns : goal.returns
returns g c = c.cmp.ensures ∙ ap₂ ordering_then (g.met.I.OverlayInt.ordered c.args.a.x c.args.b.x) (g.met.I.OverlayInt.ordered c.args.a.y c.args.b.y)
