use Rattle.segment_split.proofs.Spread.Falls.{late_passes_lower}
use Rattle.segment_split.proofs.laws.spread.late_passes_lower_the_spread.Goals as goal

pub returns : goal.returns
returns g c = λ kind. late_passes_lower kind
