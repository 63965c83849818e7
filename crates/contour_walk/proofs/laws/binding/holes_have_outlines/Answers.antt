use Rattle.contour_walk.proofs.Binding.Owners.{holes_have_outlines}
use Rattle.contour_walk.proofs.laws.binding.holes_have_outlines.Goals as goal

pub returns : goal.returns
returns c = holes_have_outlines
