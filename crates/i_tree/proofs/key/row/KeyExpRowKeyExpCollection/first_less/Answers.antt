use Rattle.std.proofs.Common.{rules}
use Rattle.std.specs.Ordering.{ordering_then}
use Rattle.std.specs.declared.cmp.Ordering.TheVariants.{Greater}
use Rattle.i_tree.specs.Row.{way_of}
use Rattle.i_tree.proofs.Keys.Places.{IsMonotone-order}
use Rattle.i_tree.proofs.Keys.Ways.{IsMonotone-then_Greater, last_below-found}
use Rattle.i_tree.proofs.key.row.KeyExpRowKeyExpCollection.first_less.Goals as goal

pub returns-clause-answer : goal.returns-clause-answer
returns-clause-answer g c =
    let mono = IsMonotone-order g.K.ExpiredKey.order c.args.key _ (rw c.look-look.ensures.kept.entries at c.look-look.ensures.sound.rising) c.requires.lawful in
    let found = c.look-look.ensures.found (λ k. ordering_then (g.K.ExpiredKey.order k c.args.key) Greater) (λ i d h r e. search rules) (IsMonotone-then_Greater (λ k. g.K.ExpiredKey.order k c.args.key) _ mono) in
    rw c.value_or.ensures (last_below-found g.K.ExpiredKey.order c.args.key _ (way_of c.look-look.result.found) found c.args.default)
