use Rattle.std.proofs.Common.{◌∙◌}
use Rattle.plane_base.proofs.Facts.Crossings.Steps.{less_told}
use Rattle.plane_base.proofs.meet.proper.is_less.Goals as goal

pub returns : goal.returns
returns g c = c.is_lt.ensures ∙ less_told c.cmp.result (g.W.WideIntNumber.number c.args.m) (g.W.WideIntNumber.number c.args.n) (c.cmp.ensures ∙ g.met.W.WideIntNumber.ordered c.args.m c.args.n)
