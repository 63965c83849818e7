use Rattle.i_tree.proofs.Keys.Ways.{IsAnswer-found}
use Rattle.i_tree.proofs.key.tree.KeyExpTreeKeyExpCollection.first_less_or_equal_by.Goals as goal

pub returns-clause-answer : goal.returns-clause-answer
returns-clause-answer g c = λ by depends mono.
    rw c.value_or.ensures (IsAnswer-found by _ c.look.result (c.look.ensures.found by depends mono) c.args.default)
