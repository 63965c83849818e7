use Rattle.std.proofs.Common.{◌≤◌, length, arith}
use Rattle.std.specs.Prelude.{decimal}
use Rattle.polybool.proofs.DecimalLaws.{length_number, length_code}
use Rattle.polybool.proofs.reply.Short.error.Goals as goal

pub push_decimal-requires : goal.push_decimal-requires
push_decimal-requires c =
    let number : length (decimal c.from.result) ≤ 20 = rw c.from.ensures (length_number c.args.number c.ranges.number.fits) in
    omega arith

pub push-requires : goal.push-requires
push-requires c =
    let number : length (decimal c.from.result) ≤ 20 = rw c.from.ensures (length_number c.args.number c.ranges.number.fits) in
    omega arith

pub push_decimal-requires-2 : goal.push_decimal-requires-2
push_decimal-requires-2 c =
    let number : length (decimal c.from.result) ≤ 20 = rw c.from.ensures (length_number c.args.number c.ranges.number.fits) in
    let code : length (decimal c.from-2.result) ≤ 2 = rw (c.from-2.ensures, c.code.ensures) (length_code c.args.refusal) in
    omega arith

pub push-requires-2 : goal.push-requires-2
push-requires-2 c =
    let number : length (decimal c.from.result) ≤ 20 = rw c.from.ensures (length_number c.args.number c.ranges.number.fits) in
    let code : length (decimal c.from-2.result) ≤ 2 = rw (c.from-2.ensures, c.code.ensures) (length_code c.args.refusal) in
    omega arith

pub returns-clause-fits : goal.returns-clause-fits
returns-clause-fits c =
    let number : length (decimal c.from.result) ≤ 20 = rw c.from.ensures (length_number c.args.number c.ranges.number.fits) in
    let code : length (decimal c.from-2.result) ≤ 2 = rw (c.from-2.ensures, c.code.ensures) (length_code c.args.refusal) in
    omega arith
