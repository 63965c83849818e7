use Rattle.segment_split.proofs.DataMaps.Rests.{data_come_to_rest}
use Rattle.segment_split.proofs.laws.data.data_come_to_rest.Goals as goal

pub returns : goal.returns
returns g c = λ kind join precision laws. data_come_to_rest laws join precision
