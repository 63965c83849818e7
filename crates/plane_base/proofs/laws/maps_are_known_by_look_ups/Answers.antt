use Rattle.plane_base.proofs.Facts.Maps.Normal.{same_normal}
use Rattle.plane_base.proofs.laws.maps_are_known_by_look_ups.Goals as goal

pub returns : goal.returns
returns g c = λ kind es fs. same_normal es fs
