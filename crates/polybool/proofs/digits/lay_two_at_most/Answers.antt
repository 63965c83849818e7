use Rattle.std.proofs.Common.{◌≡◌, length, arith}
use Rattle.std.specs.Prelude.{decimal}
use Rattle.std.proofs.lemmas.Fmt.{decimal_digit}
use Rattle.polybool.proofs.DecimalLaws.{length_digit, decimal_two, length_two}
use Rattle.polybool.proofs.digits.lay_two_at_most.Goals as goal

pub lay_digit-requires : goal.lay_digit-requires
lay_digit-requires c = let one : length (decimal c.args.n) ≡ 1 = length_digit c.args.n (omega arith) in omega arith

pub returns-then-n-lt10-clause-text : goal.returns-then-n-lt10-clause-text
returns-then-n-lt10-clause-text c = rw (decimal_digit c.args.n c.if-n-lt10.true) c.lay_digit.ensures.text

pub returns-then-n-lt10-clause-end : goal.returns-then-n-lt10-clause-end
returns-then-n-lt10-clause-end c = rw (length_digit c.args.n c.if-n-lt10.true) c.lay_digit.ensures.end

pub lay_two-requires-clause-room : goal.lay_two-requires-clause-room
lay_two-requires-clause-room c = let two : length (decimal c.args.n) ≡ 2 = length_two c.args.n (omega arith) (omega arith) in omega arith

pub returns-clause-text : goal.returns-clause-text
returns-clause-text c = rw (decimal_two c.args.n (omega arith) (omega arith)) c.lay_two.ensures.text

pub returns-clause-end : goal.returns-clause-end
returns-clause-end c = rw (length_two c.args.n (omega arith) (omega arith)) c.lay_two.ensures.end
