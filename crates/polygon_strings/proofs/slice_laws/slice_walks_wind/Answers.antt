use Rattle.polygon_strings.proofs.SliceWinds.{slice_walks_wind}
use Rattle.polygon_strings.proofs.slice_laws.slice_walks_wind.Goals as goal

pub returns : goal.returns
returns c = slice_walks_wind c.all_are_walked.ensures c.answer_winds.ensures c.long_loops_wind.ensures
