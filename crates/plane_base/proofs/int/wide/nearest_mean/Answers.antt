use Rattle.std.proofs.Common.{◌≡◌, ◌+◌, ◌*◌, ◌<◌, ◌≤◌, ◌^◌, pos, negsuc, neg_ℤ, ◌+ℤ◌, ◌*ℤ◌, ◌-ℤ◌, ◌≤ℤ◌, FitsSigned, sym, ap, ◌∙◌, arith}
use Rattle.std.specs.Int.{w128}
use Rattle.std.proofs.lemmas.Int.{ints}
use Rattle.plane_base.specs.Crossing.{floor, nearest}
use Rattle.plane_base.proofs.Facts.Numbers.Means.{nearest_mean_is, nearest_mean_within}
use Rattle.plane_base.proofs.Facts.Numbers.Means128.{gap_fits, machine_gap, machine_double, machine_numerator, coordinate_fits, coordinate_is}
use Rattle.plane_base.proofs.int.wide.nearest_mean.Goals as goal
use Rattle.plane_base.proofs.int.wide.nearest_mean.Goals.{After-quotient}

few : (c : After-quotient) → c.args.u + c.args.v ≤ 2 ^ 84
few c = omega (arith, c.requires.u_fits, c.requires.v_fits)

some : (c : After-quotient) → 0 < c.args.u + c.args.v
some c = omega (arith, c.requires.u_fits)

weighed_is : (c : After-quotient) → c.weighed.result ≡ (c.args.b -ℤ c.args.a) *ℤ pos c.args.u
weighed_is c = c.weighed.ensures.is ∙ ap (λ z. z *ℤ pos c.args.u) (machine_gap c.args.a c.args.b c.requires.a_fits c.requires.b_fits)

quotient_is : (c : After-quotient) → c.quotient.result ≡ floor ((pos 2 *ℤ ((c.args.b -ℤ c.args.a) *ℤ pos c.args.u)) +ℤ pos (c.args.u + c.args.v)) (2 * (c.args.u + c.args.v))
quotient_is c =
    let low : neg_ℤ (pos (2 ^ 124)) ≤ℤ c.weighed.result = omega (arith, ints, c.weighed.ensures.above, c.requires.u_fits) in
    let high : c.weighed.result ≤ℤ pos (2 ^ 124) = omega (arith, ints, c.weighed.ensures.below, c.requires.u_fits) in
    rw (← weighed_is c, ← machine_numerator c.weighed.result (c.args.u + c.args.v) low high (few c), ← machine_double (c.args.u + c.args.v) (few c)) c.quotient.ensures

whole : (c : After-quotient) → c.args.a +ℤ c.quotient.result ≡ nearest ((pos c.args.v *ℤ c.args.a) +ℤ (pos c.args.u *ℤ c.args.b)) (c.args.u + c.args.v)
whole c = ap (λ z. c.args.a +ℤ z) (quotient_is c) ∙ sym (nearest_mean_is c.args.a c.args.b c.args.u c.args.v (some c))

within : (c : After-quotient) → (negsuc 1099511627775 ≤ℤ (c.args.a +ℤ c.quotient.result)) × ((c.args.a +ℤ c.quotient.result) ≤ℤ pos 1099511627775)
within c =
    rw (whole c) (nearest_mean_within c.args.a c.args.b (negsuc 1099511627775) (pos 1099511627775) c.args.u c.args.v (some c) c.requires.a_fits.0 c.requires.a_fits.1 c.requires.b_fits.0 c.requires.b_fits.1)

fits : (c : After-quotient) → FitsSigned w128 c.quotient.result
fits c = record { sfits = c.quotient.type_inv }

pub overflow_add-result : goal.overflow_add-result
overflow_add-result c = coordinate_fits c.args.a c.quotient.result c.ranges.a (fits c) (within c)

pub returns : goal.returns
returns c = coordinate_is c.args.a c.quotient.result c.ranges.a (fits c) (within c) ∙ whole c

pub weighed-requires-clause-difference_fits : goal.weighed-requires-clause-difference_fits
weighed-requires-clause-difference_fits c = gap_fits c.args.a c.args.b c.requires.a_fits c.requires.b_fits
