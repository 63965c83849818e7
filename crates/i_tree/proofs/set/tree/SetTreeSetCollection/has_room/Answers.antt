use Rattle.i_tree.proofs.Sets.Trees.{IsNamed-tree}
use Rattle.i_tree.proofs.set.tree.SetTreeSetCollection.has_room.Goals as goal

pub returns-clause-sound : goal.returns-clause-sound
returns-clause-sound g c = rw (← c.self.view_is) (IsNamed-tree c.self.inside.tree c.self.inside.insertions c.self.invariant)
