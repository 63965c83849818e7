use Rattle.plane_base.proofs.Facts.Maps.Laying.{given_is_normal}
use Rattle.plane_base.proofs.Facts.Maps.Balance.{given_is_balanced}
use Rattle.plane_base.proofs.laws.given_is_a_balanced_map.Goals as goal

pub returns-clause-normal : goal.returns-clause-normal
returns-clause-normal c = given_is_normal

pub returns-clause-balanced : goal.returns-clause-balanced
returns-clause-balanced c = given_is_balanced
