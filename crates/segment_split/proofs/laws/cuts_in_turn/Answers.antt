use Rattle.segment_split.proofs.Whole.InTurn.{cuts_in_turn}
use Rattle.segment_split.proofs.laws.cuts_in_turn.Goals as goal

pub returns : goal.returns
returns g c = cuts_in_turn
