use Rattle.std.proofs.Common.{ap₂}
use Rattle.plane_base.proofs.segment.VSegment.from_segment.Goals as goal

pub returns : goal.returns
returns g c = ap₂ (λ a b. record { a = a; b = b }) c.new.ensures.a c.new.ensures.b
