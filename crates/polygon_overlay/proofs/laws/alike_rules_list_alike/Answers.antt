use Rattle.polygon_overlay.proofs.Exchanging.AlikeLaws.{listed_alike}
use Rattle.polygon_overlay.proofs.laws.alike_rules_list_alike.Goals as goal

pub returns : goal.returns
returns g c = λ fill other rule es alike. listed_alike fill other alike rule es
