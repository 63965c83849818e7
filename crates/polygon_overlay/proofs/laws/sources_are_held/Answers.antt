use Rattle.polygon_overlay.proofs.Holding.HeldLaws.{sources_are_held}
use Rattle.polygon_overlay.proofs.laws.sources_are_held.Goals as goal

pub returns : goal.returns
returns c = sources_are_held
