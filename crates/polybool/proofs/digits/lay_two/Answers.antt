use Rattle.std.proofs.Common.{append_assoc}
use Rattle.polybool.proofs.DecimalLaws.{pair_at}
use Rattle.polybool.proofs.digits.lay_two.Goals as goal

pub returns-clause-text : goal.returns-clause-text
returns-clause-text c =
    let p = pair_at c.args.n c.requires.few in
    rw (c.lay_digit.ensures.text, c.lay_digit-next.ensures.text, append_assoc, p.0, p.1)
