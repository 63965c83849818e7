use Rattle.uses.proofs.Sets.{either_bit}
use Rattle.uses.proofs.owners.Owners.union.Goals as goal

pub returns-clause-owns : goal.returns-clause-owns
returns-clause-owns c = λ n. either_bit c.args.self.bits c.args.other.bits n
