use Rattle.i_tree.proofs.Sets.Trees.{live-within, live-some, live-contains}
use Rattle.i_tree.proofs.set.tree.SetTreeSetCollection.value_by_index.Goals as goal

pub entry-requires : goal.entry-requires
entry-requires g c = live-within c.self.inside.tree c.self.inside.insertions c.self.invariant c.args.index (rw (← c.self.view_is) at c.requires.live)

pub held-requires : goal.held-requires
held-requires g c = live-some c.self.inside.tree c.self.inside.insertions c.self.invariant c.args.index (rw (← c.self.view_is) at c.requires.live) c.entry.result.now c.entry.ensures

pub returns : goal.returns
returns g c = rw (← c.self.view_is) (live-contains c.self.inside.tree c.self.inside.insertions c.self.invariant c.args.index (rw (← c.self.view_is) at c.requires.live) c.entry.result.now c.entry.ensures c.held.result.now c.held.ensures)
