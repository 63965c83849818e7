use Rattle.contour_walk.proofs.Groups.Boxes.{groups_are_answered_alone}
use Rattle.contour_walk.proofs.laws.groups.groups_are_answered_alone.Goals as goal

pub returns : goal.returns
returns c = groups_are_answered_alone c.groups_fill_alone.ensures
