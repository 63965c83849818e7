use Rattle.segment_split.proofs.DataMaps.Joins.{joins_in_any_order}
use Rattle.segment_split.proofs.laws.data.data_join_in_any_order.Goals as goal

pub returns : goal.returns
returns g c = λ kind join laws joins. joins_in_any_order laws joins
