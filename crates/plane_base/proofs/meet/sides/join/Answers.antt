use Rattle.std.proofs.Common.{◌≢◌, pos, sym, ◌∙◌}
use Rattle.plane_base.specs.SegmentViews.{edge_of}
use Rattle.plane_base.proofs.Facts.Numbers.Signs.{not_zero_told}
use Rattle.plane_base.proofs.Facts.Crossings.Beside.{join_parted}
use Rattle.plane_base.proofs.meet.sides.join.Goals as goal

pub turn_of-turn-requires-clause-a_in_range : goal.turn_of-turn-requires-clause-a_in_range
turn_of-turn-requires-clause-a_in_range g c = c.requires.s_in_range.0

pub turn_of-turn-requires-clause-b_in_range : goal.turn_of-turn-requires-clause-b_in_range
turn_of-turn-requires-clause-b_in_range g c = c.requires.s_in_range.1

pub turn_of-turn-requires-clause-c_in_range : goal.turn_of-turn-requires-clause-c_in_range
turn_of-turn-requires-clause-c_in_range g c = c.requires.t_in_range.0

pub returns : goal.returns
returns g c =
    let value = g.I.OverlayInt.value in
    let number = g.I.Wide.WideIntNumber.number in
    let off : number c.turn_of-turn.result ≢ pos 0 = not_zero_told (number c.turn_of-turn.result) c.is_zero.result c.is_zero.ensures c.if-is_zero.false in
    λ _. join_parted (edge_of value c.args.s) (edge_of value c.args.t) (number c.turn_of-turn.result) (sym c.is_same.ensures ∙ c.if-not-is_same.false) c.turn_of-turn.ensures.is off
