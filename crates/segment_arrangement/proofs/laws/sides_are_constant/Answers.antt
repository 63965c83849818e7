use Rattle.segment_arrangement.proofs.Facts.ConstantSides.{sides_are_constant}
use Rattle.segment_arrangement.proofs.laws.sides_are_constant.Goals as goal

pub returns : goal.returns
returns c = sides_are_constant
