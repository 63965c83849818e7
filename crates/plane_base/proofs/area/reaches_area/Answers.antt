use Rattle.std.proofs.Common.{◌∙◌, ◌/◌, ap, arith}
use Rattle.std.specs.Int.{w128}
use Rattle.std.specs.Prelude.{unsigned_abs, nat_le}
use Rattle.std.proofs.lemmas.Int.{to_z-of_z}
use Rattle.plane_base.proofs.area.reaches_area.Goals as goal

pub doubled_area-requires-clause-few : goal.doubled_area-requires-clause-few
doubled_area-requires-clause-few g c = λ wide. omega (arith, c.is_summed_at_once.ensures c.if-is_summed_at_once.true wide)

pub returns-then-is_summed_at_once : goal.returns-then-is_summed_at_once
returns-then-is_summed_at_once g c =
    c.reaches.ensures
    ∙ ap (λ z. nat_le c.args.least (unsigned_abs z / 2)) (to_z-of_z w128 c.doubled_area.result (record { sfits = c.doubled_area.type_inv }) ∙ c.doubled_area.ensures)
