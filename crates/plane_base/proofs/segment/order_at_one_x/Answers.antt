use Rattle.plane_base.proofs.segment.order_at_one_x.Goals as goal

pub returns-then-is_less : goal.returns-then-is_less
returns-then-is_less g c = rw (← c.is_less.ensures, c.if-is_less.true) c.order_of.ensures
