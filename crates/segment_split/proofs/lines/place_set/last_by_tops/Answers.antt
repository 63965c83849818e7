use Rattle.segment_split.proofs.PlaceSet.{last_by_upper, none_by_upper}
use Rattle.segment_split.proofs.lines.place_set.last_by_tops.Goals as goal

pub returns-in_err-at-clause-none : goal.returns-in_err-at-clause-none
returns-in_err-at-clause-none c =
    rw c.from_residual.ensures (none_by_upper c.args.groups.now c.args.words.now c.requires.groups c.args.before c.in_default.ensures.none c.in_err-at.ensures.none)

pub returns-clause-last : goal.returns-clause-last
returns-clause-last c =
    last_by_upper c.args.groups.now c.args.words.now c.requires.groups c.args.before c.in_default.ensures.none c.in_ok-at.at c.last_in.result c.in_ok-at.ensures.last c.last_in.ensures
