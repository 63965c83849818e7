use Rattle.segment_split.proofs.Redrawing.Counts.{redraws_any_counts}
use Rattle.segment_split.proofs.laws.redrawing_passes_counts.Goals as goal

pub returns : goal.returns
returns g c = λ from to f precision reads. redraws_any_counts reads precision
