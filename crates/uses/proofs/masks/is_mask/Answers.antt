use Rattle.uses.proofs.masks.is_mask.Goals as goal

pub returns : goal.returns
returns g c = (
  λ h. record { in_range = c.source_in_range.ensures.0 c.if-not-source_in_range.false; straight = c.are_rectilinear.ensures.0 h },
  λ is. c.are_rectilinear.ensures.1 is.straight,
)
