use Rattle.polygon_overlay.proofs.Holding.GivenOrderLaws.{order_does_not_matter}
use Rattle.polygon_overlay.proofs.laws.order_does_not_matter.Goals as goal

pub returns : goal.returns
returns c = order_does_not_matter
