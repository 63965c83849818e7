use Rattle.std.proofs.Common.{sym, ◌∙◌}
use Rattle.plane_base.proofs.Facts.Thinning.Laws.{thinned_winding}
use Rattle.plane_base.proofs.Facts.Windings.Sums.{contour_winding_one}
use Rattle.plane_base.proofs.laws.thinning_keeps_windings.Goals as goal

pub returns : goal.returns
returns c = λ contour d p thinned. contour_winding_one d p ∙ (sym (thinned_winding thinned p) ∙ sym (contour_winding_one contour p))
