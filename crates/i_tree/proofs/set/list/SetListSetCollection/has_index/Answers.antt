use Rattle.std.proofs.Common.{◌<◌, arith}
use Rattle.std.proofs.lemmas.Bool.{ltb-true, lt-ltb}
use Rattle.i_tree.proofs.Sets.Laws.{has_position, position_of, IsNamed-positions}
use Rattle.i_tree.proofs.set.list.SetListSetCollection.has_index.Goals as goal

pub returns-clause-live : goal.returns-clause-live
returns-clause-live g c = (
  (λ less. has_position c.args.self.now.values.items c.args.index (let within : c.args.index < c.len.result = ltb-true _ _ less in omega (arith, c.len.ensures, c.args.self.now.values.ok.0))),
  (λ has. let within : c.args.index < c.len.result = omega (arith, c.len.ensures, c.args.self.now.values.ok.0, position_of c.args.self.now.values.items c.args.index has) in lt-ltb _ _ within),
)

pub returns-clause-sound : goal.returns-clause-sound
returns-clause-sound g c = IsNamed-positions c.args.self.now.insertions c.args.self.now.values.items (omega (arith, c.args.self.now.few, c.args.self.now.values.ok.0)) c.args.self.now.bounded
