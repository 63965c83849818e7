use Rattle.std.proofs.Common.{◌≡◌, ◌-ℤ◌, unsigned_abs, ◌∙◌, arith}
use Rattle.std.proofs.lemmas.Int.{ints}
use Rattle.std.proofs.lemmas.Nat.{pow_pos}
use Rattle.i_tree.proofs.Ranges.Layouts.{BucketsRise-buckets}
use Rattle.i_tree.proofs.seg.layout.Layout.bucket.Goals as goal

pub returns-clause-rise : goal.returns-clause-rise
returns-clause-rise g c = rw (← c.self.view_is) (BucketsRise-buckets _ (pow_pos c.self.inside.power) c.self.invariant.1.1)

pub returns-clause-bucket : goal.returns-clause-bucket
returns-clause-bucket g c =
    let far : unsigned_abs (g.R.LayoutNumber.value c.args.value -ℤ g.R.LayoutNumber.value c.self.inside.min) ≡ g.R.UInt.LayoutUInt.number c.offset_from.result = omega (arith, ints, c.offset_from.ensures) in
    rw (← c.self.view_is, far) (c.to_u32.ensures ∙ g.met.R.UInt.LayoutUInt.shift_divides _ _ _ c.shr.ensures)

pub shr-requires : goal.shr-requires
shr-requires g c = g.met.R.UInt.LayoutUInt.can_shift _ _ c.self.invariant.1.0
