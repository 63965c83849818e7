use Rattle.i_tree.specs.Row.{way_of}
use Rattle.i_tree.proofs.Keys.Ways.{IsAnswer-found}
use Rattle.i_tree.proofs.key.row.KeyExpRowKeyExpCollection.first_less_or_equal_by.Goals as goal

pub returns-clause-answer : goal.returns-clause-answer
returns-clause-answer g c = λ by depends mono.
    rw c.value_or.ensures (IsAnswer-found by _ (way_of c.look-look.result.found) (c.look-look.ensures.found by depends mono) c.args.default)
