use Rattle.contour_walk.proofs.Groups.Boxes.{groups_are_walked_alone}
use Rattle.contour_walk.proofs.laws.groups.groups_are_walked_alone.Goals as goal

pub returns : goal.returns
returns c = groups_are_walked_alone
