use Rattle.contour_walk.proofs.Binding.Walks.{walks_pass_once}
use Rattle.contour_walk.proofs.laws.binding.walks_pass_once.Goals as goal

pub returns : goal.returns
returns c = walks_pass_once c.all_are_walked.ensures
