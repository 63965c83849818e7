use Rattle.polygon_overlay.proofs.Holding.GivenOrderLaws.{holding_goes_on}
use Rattle.polygon_overlay.proofs.laws.holding_goes_on.Goals as goal

pub returns : goal.returns
returns c = holding_goes_on
