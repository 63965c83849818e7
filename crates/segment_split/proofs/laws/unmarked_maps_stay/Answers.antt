use Rattle.segment_split.proofs.Passes.Unmarked.{keeps_unmarked}
use Rattle.segment_split.proofs.laws.unmarked_maps_stay.Goals as goal

pub returns : goal.returns
returns g c = keeps_unmarked
