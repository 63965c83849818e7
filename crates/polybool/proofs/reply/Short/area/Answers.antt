use Rattle.std.proofs.Common.{◌≤◌, length, arith}
use Rattle.std.specs.Int.{w128}
use Rattle.std.specs.Fmt.{signed_decimal}
use Rattle.std.proofs.lemmas.Int.{to_z-of_z}
use Rattle.polybool.proofs.DecimalLaws.{length_signed}
use Rattle.polybool.proofs.reply.Short.area.Goals as goal

pub push_signed-requires : goal.push_signed-requires
push_signed-requires c =
    let few : length (signed_decimal c.args.area) ≤ 40 = length_signed c.args.area c.ranges.area in
    let same = to_z-of_z w128 c.args.area c.ranges.area in
    omega (arith, few, rw (← same) at few)

pub push-requires : goal.push-requires
push-requires c =
    let few : length (signed_decimal c.args.area) ≤ 40 = length_signed c.args.area c.ranges.area in
    let same = to_z-of_z w128 c.args.area c.ranges.area in
    omega (arith, few, rw (← same) at few)

pub returns-clause-fits : goal.returns-clause-fits
returns-clause-fits c =
    let few : length (signed_decimal c.args.area) ≤ 40 = length_signed c.args.area c.ranges.area in
    let same = to_z-of_z w128 c.args.area c.ranges.area in
    omega (arith, few, rw (← same) at few)
