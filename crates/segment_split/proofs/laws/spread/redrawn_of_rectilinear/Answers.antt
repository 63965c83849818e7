use Rattle.segment_split.proofs.Whole.RectilinearEdges.{horizontal_and_vertical_meet_whole}
use Rattle.segment_split.proofs.Whole.Neighbours.{redraws_by_lines}
use Rattle.segment_split.proofs.Whole.Coordinates.{cut_by_coordinates}
use Rattle.segment_split.proofs.Whole.StepLists.{steps_of_points}
use Rattle.segment_split.proofs.Whole.Inside.{inside_is_marked}
use Rattle.segment_split.proofs.Whole.SumsAlong.{adds_along}
use Rattle.segment_split.proofs.laws.spread.redrawn_of_rectilinear.Goals as goal

pub returns-clause-whole : goal.returns-clause-whole
returns-clause-whole g c = horizontal_and_vertical_meet_whole

pub returns-clause-redrawn : goal.returns-clause-redrawn
returns-clause-redrawn g c = redraws_by_lines

pub returns-clause-rectilinear : goal.returns-clause-rectilinear
returns-clause-rectilinear g c = cut_by_coordinates

pub returns-clause-steps : goal.returns-clause-steps
returns-clause-steps g c kind precision = record { list = steps_of_points kind precision; marked = λ es ps h all points. inside_is_marked kind precision es h all ps points }

pub returns-clause-added : goal.returns-clause-added
returns-clause-added g c = adds_along
