use Rattle.std.proofs.Common.{arith, refl}
use Rattle.i_tree.proofs.Sets.Lists.{list_written-same}
use Rattle.i_tree.proofs.Sets.Laws.{position_of, contains_entry}
use Rattle.i_tree.proofs.set.list.SetListSetCollection.value_by_index_mut.Goals as goal

pub index_mut-requires : goal.index_mut-requires
index_mut-requires g c = omega (arith, position_of c.args.self.now.values.items c.args.index c.requires.live, c.args.self.now.values.ok.0)

pub returns : goal.returns
returns g c = ((refl, λ w. list_written-same c.args.self.now c.args.index w _ _), record { writes_back = tt; value = contains_entry c.args.self.now.values.items c.args.index c.index_mut.result.now (position_of c.args.self.now.values.items c.args.index c.requires.live) c.index_mut.ensures.value })
