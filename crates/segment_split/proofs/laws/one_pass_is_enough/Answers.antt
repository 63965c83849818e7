use Rattle.segment_split.proofs.Passes.Last.{one_pass_is_enough}
use Rattle.segment_split.proofs.laws.one_pass_is_enough.Goals as goal

pub returns : goal.returns
returns g c = one_pass_is_enough
