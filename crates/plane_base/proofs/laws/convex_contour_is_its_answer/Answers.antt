use Rattle.plane_base.proofs.Facts.Windings.ConvexAnswers.{thinned_convex_winds_once, thinned_away_winds_once}
use Rattle.plane_base.proofs.laws.convex_contour_is_its_answer.Goals as goal

pub returns-clause-convex : goal.returns-clause-convex
returns-clause-convex c = λ contour u v thinned. thinned_convex_winds_once thinned

pub returns-clause-nothing : goal.returns-clause-nothing
returns-clause-nothing c = λ contour thinned. thinned_away_winds_once thinned
