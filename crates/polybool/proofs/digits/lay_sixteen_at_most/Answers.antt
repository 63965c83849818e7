use Rattle.std.proofs.Common.{◌≡◌, ◌+◌, ◌/◌, length, arith}
use Rattle.std.specs.Prelude.{decimal}
use Rattle.polybool.proofs.DecimalLaws.{decimal_eight_more, length_eight_more}
use Rattle.polybool.proofs.PieceLaws.{laid_then}
use Rattle.polybool.proofs.digits.lay_sixteen_at_most.Goals as goal

pub lay_eight_at_most-next-requires-clause-room : goal.lay_eight_at_most-next-requires-clause-room
lay_eight_at_most-next-requires-clause-room c =
    let more : length (decimal c.args.n) ≡ length (decimal (c.args.n / 100000000)) + 8 = length_eight_more c.args.n (omega arith) (omega arith) in
    omega arith

pub lay_eight-requires-clause-room : goal.lay_eight-requires-clause-room
lay_eight-requires-clause-room c =
    let more : length (decimal c.args.n) ≡ length (decimal (c.args.n / 100000000)) + 8 = length_eight_more c.args.n (omega arith) (omega arith) in
    omega arith

pub returns-clause-text : goal.returns-clause-text
returns-clause-text c =
    laid_then _ _ _ _ _ _ c.lay_eight_at_most-next.ensures.text c.lay_eight.ensures.text (decimal_eight_more c.args.n (omega arith) (omega arith))

pub returns-clause-end : goal.returns-clause-end
returns-clause-end c =
    let more : length (decimal c.args.n) ≡ length (decimal (c.args.n / 100000000)) + 8 = length_eight_more c.args.n (omega arith) (omega arith) in
    omega arith
