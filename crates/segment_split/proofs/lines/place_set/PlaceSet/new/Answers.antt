use Rattle.std.proofs.Common.{◌∙◌, ◌+◌, ◌/◌, ap}
use Rattle.segment_split.specs.PlaceSet.{members_of}
use Rattle.segment_split.proofs.PlaceSet.{members_of-replicate, IsSound-new}
use Rattle.segment_split.proofs.lines.place_set.PlaceSet.new.Goals as goal

pub invariant_of-result : goal.invariant_of-result
invariant_of-result c = rw (c.in_ok-words.ensures.empty, c.in_ok-groups.ensures.empty, c.in_ok-tops.ensures.empty) (IsSound-new c.args.places)

pub returns-clause-none : goal.returns-clause-none
returns-clause-none c = ap (members_of c.args.places) c.in_ok-words.ensures.empty ∙ members_of-replicate c.args.places (c.args.places / 64 + 1)
