use Rattle.polygon_overlay.proofs.Holding.GivenWindingLaws.{held_winds_as_given}
use Rattle.polygon_overlay.proofs.given_laws.held_winds_as_given.Goals as goal

pub returns : goal.returns
returns c = held_winds_as_given c.thinning_keeps_windings.ensures
