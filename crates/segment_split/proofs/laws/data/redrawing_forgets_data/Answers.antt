use Rattle.segment_split.proofs.DataMaps.Forgets.{forgets_data}
use Rattle.segment_split.proofs.laws.data.redrawing_forgets_data.Goals as goal

pub returns : goal.returns
returns g c = λ kind join precision laws. forgets_data laws join precision
