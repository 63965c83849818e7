use Rattle.std.proofs.Common.{ap, pos, ◌∙◌, int_cmp}
use Rattle.plane_base.proofs.Facts.Numbers.Signs.{order_level, order_below, order_above}
use Rattle.plane_base.proofs.orientation.orientation.Goals as goal

pub returns-then-is_zero : goal.returns-then-is_zero
returns-then-is_zero g c =
    order_level (g.I.Wide.WideIntNumber.number c.turn_of-turn.result) c.is_zero.result c.is_zero.ensures c.if-is_zero.true ∙ ap (λ n. int_cmp n (pos 0)) c.turn_of-turn.ensures.is

pub returns-then-is_negative : goal.returns-then-is_negative
returns-then-is_negative g c =
    order_below (g.I.Wide.WideIntNumber.number c.turn_of-turn.result) c.is_negative.result c.is_negative.ensures c.if-is_negative.true ∙ ap (λ n. int_cmp n (pos 0)) c.turn_of-turn.ensures.is

pub returns-else-is_negative : goal.returns-else-is_negative
returns-else-is_negative g c =
    order_above (g.I.Wide.WideIntNumber.number c.turn_of-turn.result) c.is_zero.result c.is_negative.result c.is_zero.ensures c.if-is_zero.false c.is_negative.ensures c.if-is_negative.false
    ∙ ap (λ n. int_cmp n (pos 0)) c.turn_of-turn.ensures.is
