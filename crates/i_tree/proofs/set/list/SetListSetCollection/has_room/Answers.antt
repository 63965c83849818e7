use Rattle.std.proofs.Common.{arith}
use Rattle.i_tree.proofs.Sets.Laws.{IsNamed-positions}
use Rattle.i_tree.proofs.set.list.SetListSetCollection.has_room.Goals as goal

pub returns-clause-sound : goal.returns-clause-sound
returns-clause-sound g c = IsNamed-positions c.args.self.now.insertions c.args.self.now.values.items (omega (arith, c.args.self.now.few, c.args.self.now.values.ok.0)) c.args.self.now.bounded
