use Rattle.std.proofs.Common.{◌≡◌, ℤ, pos, negsuc, ◌≤ℤ◌, arith, w32, w64, to_z, of_z}
use Rattle.std.proofs.lemmas.Int.{ints}
use Rattle.plane_base.proofs.int.I32OverlayInt.from_i64.Goals as goal

narrowed : (z : ℤ) → negsuc 524287 ≤ℤ z → z ≤ℤ pos 524287 → to_z w32 (of_z w32 (to_z w64 (of_z w64 z))) ≡ z
narrowed z h k = omega (arith, ints)

pub returns : goal.returns
returns c = narrowed c.args.number c.requires.0 c.requires.1
