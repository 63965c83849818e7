use Rattle.segment_arrangement.proofs.AlikeRules.{once_is_positive}
use Rattle.segment_arrangement.proofs.laws.once_is_positive.Goals as goal

pub returns : goal.returns
returns c = once_is_positive
