use Rattle.std.proofs.Common.{arith}
use Rattle.std.proofs.lemmas.Bool.{false≢true}
use Rattle.polygon_overlay.proofs.point_location.stretches.opens.Goals as goal

pub returns-then-stretch-number : goal.returns-then-stretch-number
returns-then-stretch-number g c = λ e. absurd (false≢true e)

pub returns : goal.returns
returns g c = λ e. omega (arith, c.if-stretch-number.false)
