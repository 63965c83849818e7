use Rattle.std.proofs.Common.{◌∙◌, ◌+◌, ◌/◌, ap}
use Rattle.segment_split.specs.PlaceSet.{members_of}
use Rattle.segment_split.proofs.PlaceSet.{members_of-replicate, IsSound-new, refilled}
use Rattle.segment_split.proofs.lines.place_set.PlaceSet.reset.Goals as goal

pub invariant_of-self-2 : goal.invariant_of-self-2
invariant_of-self-2 c =
    let words = refilled (c.args.places / 64 + 1) _ _ _ c.clear.ensures.items c.clear.ensures.len c.in_ok-resize.ensures.items in
    let groups = refilled (c.args.places / 64 / 64 + 1) _ _ _ c.clear-2.ensures.items c.clear-2.ensures.len c.in_ok-resize-2.ensures.items in
    let tops = refilled (c.args.places / 64 / 64 / 64 + 1) _ _ _ c.clear-3.ensures.items c.clear-3.ensures.len c.in_ok-resize-3.ensures.items in
    rw (words, groups, tops) (IsSound-new c.args.places)

pub returns-clause-none : goal.returns-clause-none
returns-clause-none c =
    let words = refilled (c.args.places / 64 + 1) _ _ _ c.clear.ensures.items c.clear.ensures.len c.in_ok-resize.ensures.items in
    ap (members_of c.args.places) words ∙ members_of-replicate c.args.places (c.args.places / 64 + 1)
