use Rattle.std.proofs.Common.{◌≡◌, ◌+◌, ◌/◌, length, arith}
use Rattle.std.specs.Prelude.{decimal}
use Rattle.polybool.proofs.DecimalLaws.{decimal_two_more, length_two_more}
use Rattle.polybool.proofs.PieceLaws.{laid_then}
use Rattle.polybool.proofs.digits.lay_four_at_most.Goals as goal

pub lay_two_at_most-next-requires-clause-room : goal.lay_two_at_most-next-requires-clause-room
lay_two_at_most-next-requires-clause-room c =
    let more : length (decimal c.args.n) ≡ length (decimal (c.args.n / 100)) + 2 = length_two_more c.args.n (omega arith) (omega arith) in
    omega arith

pub lay_two-requires-clause-room : goal.lay_two-requires-clause-room
lay_two-requires-clause-room c =
    let more : length (decimal c.args.n) ≡ length (decimal (c.args.n / 100)) + 2 = length_two_more c.args.n (omega arith) (omega arith) in
    omega arith

pub returns-clause-text : goal.returns-clause-text
returns-clause-text c =
    laid_then _ _ _ _ _ _ c.lay_two_at_most-next.ensures.text c.lay_two.ensures.text (decimal_two_more c.args.n (omega arith) (omega arith))

pub returns-clause-end : goal.returns-clause-end
returns-clause-end c =
    let more : length (decimal c.args.n) ≡ length (decimal (c.args.n / 100)) + 2 = length_two_more c.args.n (omega arith) (omega arith) in
    omega arith
