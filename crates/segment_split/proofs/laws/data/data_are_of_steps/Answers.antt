use Rattle.segment_split.proofs.DataMaps.Steps.{data_is_of_steps}
use Rattle.segment_split.proofs.laws.data.data_are_of_steps.Goals as goal

pub returns : goal.returns
returns g c = λ kind join precision joins. data_is_of_steps kind join joins precision
