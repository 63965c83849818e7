use Rattle.std.proofs.Common.{◌∙◌, refl, ℤ, pos, neg_ℤ, ◌^◌, ◌≤ℤ◌, FitsSigned, to_z, of_z, arith}
use Rattle.std.specs.Int.{w128}
use Rattle.std.proofs.lemmas.Int.{ints, to_z-of_z}
use Rattle.plane_base.proofs.int.I128WideIntNumber.size.Goals as goal

negated_fits : (n : ℤ) → neg_ℤ (pos (2 ^ 126)) ≤ℤ n → n ≤ℤ pos (2 ^ 126) → FitsSigned w128 (neg_ℤ (to_z w128 (of_z w128 n)))
negated_fits n h k = omega (arith, ints)

pub abs-requires : goal.abs-requires
abs-requires c = negated_fits c.args.self c.requires.0 c.requires.1

pub returns : goal.returns
returns c =
    to_z-of_z w128 c.abs.result (record { sfits = c.abs.type_inv }) ∙ (c.abs.ensures.value ∙ rw (to_z-of_z w128 c.args.self c.ranges.self) refl)
