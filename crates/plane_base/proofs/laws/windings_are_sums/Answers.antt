use Rattle.plane_base.proofs.Facts.Windings.Sums.{contour_winding_is, winding_given_by_contours}
use Rattle.plane_base.proofs.laws.windings_are_sums.Goals as goal

pub returns-clause-contours : goal.returns-clause-contours
returns-clause-contours c = contour_winding_is

pub returns-clause-map : goal.returns-clause-map
returns-clause-map c = winding_given_by_contours
