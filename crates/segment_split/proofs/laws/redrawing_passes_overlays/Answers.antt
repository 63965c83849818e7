use Rattle.plane_base.proofs.Facts.Maps.Laying.{boolean_counting}
use Rattle.segment_split.proofs.Redrawing.Counts.{redraws_any_counts, turned_counts, exchanged_counts}
use Rattle.segment_split.proofs.laws.redrawing_passes_overlays.Goals as goal

pub returns-clause-negated : goal.returns-clause-negated
returns-clause-negated c = redraws_any_counts (turned_counts boolean_counting)

pub returns-clause-exchanged : goal.returns-clause-exchanged
returns-clause-exchanged c = redraws_any_counts exchanged_counts
