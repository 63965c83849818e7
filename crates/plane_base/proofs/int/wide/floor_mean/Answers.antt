use Rattle.std.proofs.Common.{◌≡◌, ◌+◌, ◌<◌, ◌≤◌, ◌^◌, pos, negsuc, ◌+ℤ◌, ◌*ℤ◌, ◌-ℤ◌, ◌≤ℤ◌, FitsSigned, sym, ap, ◌∙◌, arith}
use Rattle.std.specs.Int.{w128}
use Rattle.std.proofs.lemmas.Int.{to_z-of_z}
use Rattle.plane_base.specs.Crossing.{floor}
use Rattle.plane_base.proofs.Facts.Numbers.Means.{floor_mean_is, floor_mean_within}
use Rattle.plane_base.proofs.Facts.Numbers.Means128.{gap_fits, machine_gap, machine_number, coordinate_fits, coordinate_is}
use Rattle.plane_base.proofs.int.wide.floor_mean.Goals as goal
use Rattle.plane_base.proofs.int.wide.floor_mean.Goals.{After-quotient}

few : (c : After-quotient) → c.args.u + c.args.v ≤ 2 ^ 84
few c = omega (arith, c.requires.u_fits, c.requires.v_fits)

some : (c : After-quotient) → 0 < c.args.u + c.args.v
some c = omega (arith, c.requires.u_fits)

weighed_is : (c : After-quotient) → c.weighed.result ≡ (c.args.b -ℤ c.args.a) *ℤ pos c.args.u
weighed_is c = c.weighed.ensures.is ∙ ap (λ z. z *ℤ pos c.args.u) (machine_gap c.args.a c.args.b c.requires.a_fits c.requires.b_fits)

weighed_fits : (c : After-quotient) → FitsSigned w128 c.weighed.result
weighed_fits c = record { sfits = c.weighed.type_inv }

quotient_is : (c : After-quotient) → c.quotient.result ≡ floor ((c.args.b -ℤ c.args.a) *ℤ pos c.args.u) (c.args.u + c.args.v)
quotient_is c =
    rw (← weighed_is c, ← to_z-of_z w128 c.weighed.result (weighed_fits c), ← machine_number (c.args.u + c.args.v) (few c)) c.quotient.ensures

whole : (c : After-quotient) → c.args.a +ℤ c.quotient.result ≡ floor ((pos c.args.v *ℤ c.args.a) +ℤ (pos c.args.u *ℤ c.args.b)) (c.args.u + c.args.v)
whole c = ap (λ z. c.args.a +ℤ z) (quotient_is c) ∙ sym (floor_mean_is c.args.a c.args.b c.args.u c.args.v (some c))

within : (c : After-quotient) → (negsuc 1099511627775 ≤ℤ (c.args.a +ℤ c.quotient.result)) × ((c.args.a +ℤ c.quotient.result) ≤ℤ pos 1099511627775)
within c =
    rw (whole c) (floor_mean_within c.args.a c.args.b (negsuc 1099511627775) (pos 1099511627775) c.args.u c.args.v (some c) c.requires.a_fits.0 c.requires.a_fits.1 c.requires.b_fits.0 c.requires.b_fits.1)

fits : (c : After-quotient) → FitsSigned w128 c.quotient.result
fits c = record { sfits = c.quotient.type_inv }

pub overflow_add-result : goal.overflow_add-result
overflow_add-result c = coordinate_fits c.args.a c.quotient.result c.ranges.a (fits c) (within c)

pub returns : goal.returns
returns c = coordinate_is c.args.a c.quotient.result c.ranges.a (fits c) (within c) ∙ whole c

pub weighed-requires-clause-difference_fits : goal.weighed-requires-clause-difference_fits
weighed-requires-clause-difference_fits c = gap_fits c.args.a c.args.b c.requires.a_fits c.requires.b_fits
