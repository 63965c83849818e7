use Rattle.polygon_strings.proofs.NextHalves.{halves_go_on}
use Rattle.polygon_strings.proofs.slice_laws.halves_go_on.Goals as goal

pub returns : goal.returns
returns c = halves_go_on c.points_have_rings.ensures c.sectors_are_whole.ensures
