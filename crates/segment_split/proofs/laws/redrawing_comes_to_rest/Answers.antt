use Rattle.segment_split.proofs.Redrawing.Iterates.{comes_to_rest}
use Rattle.segment_split.proofs.Redrawing.Ends.{marks_from_the_first, redraws_to_the_end}
use Rattle.segment_split.proofs.laws.redrawing_comes_to_rest.Goals as goal

pub returns-clause-rests : goal.returns-clause-rests
returns-clause-rests g c = comes_to_rest

pub returns-clause-ends : goal.returns-clause-ends
returns-clause-ends g c = redraws_to_the_end

pub returns-clause-marks : goal.returns-clause-marks
returns-clause-marks g c = marks_from_the_first
