use Rattle.std.proofs.Common.{arith}
use Rattle.i_tree.proofs.Sets.Laws.{position_of, contains_entry}
use Rattle.i_tree.proofs.set.list.SetListSetCollection.value_by_index.Goals as goal

pub index-requires : goal.index-requires
index-requires g c = omega (arith, position_of c.args.self.now.values.items c.args.index c.requires.live, c.args.self.now.values.ok.0)

pub returns : goal.returns
returns g c = contains_entry c.args.self.now.values.items c.args.index c.index.result.now (position_of c.args.self.now.values.items c.args.index c.requires.live) c.index.ensures
