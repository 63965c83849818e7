use Rattle.std.proofs.Common.{sym, ◌∙◌}
use Rattle.polygon_overlay.proofs.laws.widths_agree.Goals as goal

pub returns : goal.returns
returns c least greatest low high options fill rule precision held shapes others one other = one.canonical ∙ sym other.canonical
