use Rattle.polygon_strings.proofs.Slicing.Winding.{pieces_wind}
use Rattle.polygon_strings.proofs.slice_laws.pieces_wind.Goals as goal

pub returns : goal.returns
returns c = pieces_wind c.slice_walks_wind.ensures c.loops_keep_steps.ensures c.loops_repeat_no_point.ensures
