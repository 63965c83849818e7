use Rattle.std.proofs.Common.{rules}
use Rattle.i_tree.proofs.Keys.Places.{IsMonotone-order}
use Rattle.i_tree.proofs.Keys.Ways.{HasEqualKey-found}
use Rattle.i_tree.proofs.key.tree.KeyExpTreeKeyExpCollection.contains_key.Goals as goal

pub returns-in-Equal-clause-found : goal.returns-in-Equal-clause-found
returns-in-Equal-clause-found g c =
    let mono = IsMonotone-order g.K.ExpiredKey.order c.args.key _ (rw c.look.ensures.kept.entries at c.look.ensures.sound.rising) c.requires.lawful in
    let found = c.look.ensures.found (λ k. g.K.ExpiredKey.order k c.args.key) (λ i d h r e. search rules) mono in
    rw c.in-Equal.is at (HasEqualKey-found g.K.ExpiredKey.order c.args.key _ c.look.result found).0

pub returns-in_default-clause-absent : goal.returns-in_default-clause-absent
returns-in_default-clause-absent g c =
    let mono = IsMonotone-order g.K.ExpiredKey.order c.args.key _ (rw c.look.ensures.kept.entries at c.look.ensures.sound.rising) c.requires.lawful in
    let found = c.look.ensures.found (λ k. g.K.ExpiredKey.order k c.args.key) (λ i d h r e. search rules) mono in
    rw c.in_default.is at (HasEqualKey-found g.K.ExpiredKey.order c.args.key _ c.look.result found).1
