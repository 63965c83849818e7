use Rattle.std.proofs.Common.{◌≡◌, ◌+◌, pos, ◌*ℤ◌, ◌-ℤ◌, w64, FitsSigned, ap, ◌∙◌}
use Rattle.plane_base.proofs.Facts.Numbers.Means.{gap_fits, machine_gap, same_offset, eqb-machine}
use Rattle.plane_base.proofs.int.narrow.is_mean.Goals as goal
use Rattle.plane_base.proofs.int.narrow.is_mean.Goals.{After-weighed-2}

first_is : (c : After-weighed-2) → c.weighed.result ≡ (c.args.number -ℤ c.args.a) *ℤ pos (c.args.u + c.args.v)
first_is c = c.weighed.ensures.is ∙ ap (λ z. z *ℤ pos (c.args.u + c.args.v)) (machine_gap c.args.a c.args.number c.requires.a_fits c.requires.number_fits)

second_is : (c : After-weighed-2) → c.weighed-2.result ≡ (c.args.b -ℤ c.args.a) *ℤ pos c.args.u
second_is c = c.weighed-2.ensures.is ∙ ap (λ z. z *ℤ pos c.args.u) (machine_gap c.args.a c.args.b c.requires.a_fits c.requires.b_fits)

first_fits : (c : After-weighed-2) → FitsSigned w64 c.weighed.result
first_fits c = record { sfits = c.weighed.type_inv }

second_fits : (c : After-weighed-2) → FitsSigned w64 c.weighed-2.result
second_fits c = record { sfits = c.weighed-2.type_inv }

pub returns : goal.returns
returns c =
    eqb-machine c.weighed.result c.weighed-2.result (first_fits c) (second_fits c)
    ∙ rw (first_is c, second_is c) (same_offset c.args.a c.args.b c.args.number c.args.u c.args.v)

pub weighed-requires-clause-difference_fits : goal.weighed-requires-clause-difference_fits
weighed-requires-clause-difference_fits c = gap_fits c.args.a c.args.number c.requires.a_fits c.requires.number_fits

pub weighed-requires-2-clause-difference_fits : goal.weighed-requires-2-clause-difference_fits
weighed-requires-2-clause-difference_fits c = gap_fits c.args.a c.args.b c.requires.a_fits c.requires.b_fits
