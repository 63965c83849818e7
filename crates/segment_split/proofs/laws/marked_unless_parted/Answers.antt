use Rattle.segment_split.proofs.Passes.OldPairs.{marked_unless_parted}
use Rattle.segment_split.proofs.laws.marked_unless_parted.Goals as goal

pub returns : goal.returns
returns c = marked_unless_parted
