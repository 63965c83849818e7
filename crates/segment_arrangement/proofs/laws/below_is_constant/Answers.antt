use Rattle.segment_arrangement.proofs.Facts.AlongKey.{below_constant}
use Rattle.segment_arrangement.proofs.laws.below_is_constant.Goals as goal

pub returns : goal.returns
returns c = λ es s x y directed balanced others. below_constant es s x y directed others balanced
