use Rattle.std.proofs.Common.{refl}
use Rattle.i_tree.proofs.key.list.KeyExpListKeyExpCollection.clear.Goals as goal

pub returns : goal.returns
returns g c = rw c.clear.ensures.items refl
