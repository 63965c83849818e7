use Rattle.std.proofs.Common.{◌≡◌, ℤ, arith, w32, w64, FitsSigned, to_z, of_z}
use Rattle.std.proofs.lemmas.Int.{ints}
use Rattle.plane_base.proofs.int.I32OverlayInt.to_i64.Goals as goal

widened : (r s : ℤ) → FitsSigned w32 s → r ≡ to_z w32 (of_z w32 s) → to_z w64 (of_z w64 r) ≡ s
widened r s f e = omega (arith, ints)

pub returns : goal.returns
returns c = widened c.from.result c.args.self c.ranges.self c.from.ensures
