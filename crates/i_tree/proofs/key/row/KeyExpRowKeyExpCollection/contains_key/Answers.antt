use Rattle.std.proofs.Common.{rules}
use Rattle.i_tree.proofs.Keys.Places.{IsMonotone-order}
use Rattle.i_tree.proofs.Keys.RowKept.{HasEqualKey-row}
use Rattle.i_tree.proofs.key.row.KeyExpRowKeyExpCollection.contains_key.Goals as goal

pub returns-clause-found : goal.returns-clause-found
returns-clause-found g c =
    let mono = IsMonotone-order g.K.ExpiredKey.order c.args.key _ (rw c.look-look.ensures.kept.entries at c.look-look.ensures.sound.rising) c.requires.lawful in
    let found = c.look-look.ensures.found (λ k. g.K.ExpiredKey.order k c.args.key) (λ i d h r e. search rules) mono in
    rw c.is_ok.ensures.value (HasEqualKey-row g.K.ExpiredKey.order c.args.key _ c.look-look.result.found found).0

pub returns-clause-absent : goal.returns-clause-absent
returns-clause-absent g c =
    let mono = IsMonotone-order g.K.ExpiredKey.order c.args.key _ (rw c.look-look.ensures.kept.entries at c.look-look.ensures.sound.rising) c.requires.lawful in
    let found = c.look-look.ensures.found (λ k. g.K.ExpiredKey.order k c.args.key) (λ i d h r e. search rules) mono in
    rw c.is_ok.ensures.value (HasEqualKey-row g.K.ExpiredKey.order c.args.key _ c.look-look.result.found found).1
