use Rattle.std.proofs.Common.{refl}
use Rattle.contour_walk.proofs.nearest_vector.NearestVector.new.Goals as goal

pub returns : goal.returns
returns g c = (refl, refl, refl, refl, refl)
