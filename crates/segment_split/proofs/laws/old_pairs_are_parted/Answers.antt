use Rattle.segment_split.proofs.Passes.OldPairs.{old_pairs_are_parted}
use Rattle.segment_split.proofs.laws.old_pairs_are_parted.Goals as goal

pub returns : goal.returns
returns c = old_pairs_are_parted
