use Rattle.segment_split.proofs.Spread.Falls.{late_paths_climb}
use Rattle.segment_split.proofs.laws.spread.late_paths_climb.Goals as goal

pub returns : goal.returns
returns c = late_paths_climb
