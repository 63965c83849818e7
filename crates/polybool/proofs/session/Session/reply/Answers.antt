use Rattle.std.proofs.Common.{arith}
use Rattle.polybool.proofs.session.Session.reply.Goals as goal

pub returns-clause-number : goal.returns-clause-number
returns-clause-number g c = omega arith

pub returns-clause-line : goal.returns-clause-line
returns-clause-line g c = c.begin.ensures
