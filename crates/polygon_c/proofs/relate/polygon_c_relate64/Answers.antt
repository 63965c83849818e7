use Rattle.std.proofs.Common.{refl, inl}
use Rattle.polygon_c.proofs.relate.polygon_c_relate64.Goals as goal

pub returns-in-Ok : goal.returns-in-Ok
returns-in-Ok c = inl (refl, (c.in-Ok.found, c.in-Ok.ensures.answered, c.flags.ensures))
