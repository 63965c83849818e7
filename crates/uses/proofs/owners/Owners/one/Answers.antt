use Rattle.uses.proofs.Sets.{one_bit}
use Rattle.uses.proofs.owners.Owners.one.Goals as goal

pub returns : goal.returns
returns c = λ n. one_bit c.args.number n c.requires
