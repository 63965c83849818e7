use Rattle.std.proofs.Common.{◌≡◌}
use Rattle.std.proofs.lemmas.Iterator.{items_from_collect, YieldsList-from_slice}
use Rattle.std.proofs.lemmas.Iterator.Consumers.{YieldsList-from_copied}
use Rattle.std.proofs.lemmas.Result.{err_from_is_err_and}
use Rattle.i_tree.proofs.key.list.KeyExpListClone.clone.Goals as goal

pub returns-in_err-collect : goal.returns-in_err-collect
returns-in_err-collect g c = rw ((err_from_is_err_and c.from_residual.result c.from_residual.ensures.1).1) (record { cases = λ never. never })

pub invariant_of-result : goal.invariant_of-result
invariant_of-result g c =
    let items : c.in_ok-collect.field-0.items ≡ c.self.inside.entries.items = rw c.in_ok-collect.was at (items_from_collect c.collect.result c.collect.ensures.ran (YieldsList-from_copied (YieldsList-from_slice c.self.inside.entries.items cc))) in
    rw items c.self.invariant

pub returns : goal.returns
returns g c =
    let items : c.in_ok-collect.field-0.items ≡ c.self.inside.entries.items = rw c.in_ok-collect.was at (items_from_collect c.collect.result c.collect.ensures.ran (YieldsList-from_copied (YieldsList-from_slice c.self.inside.entries.items cc))) in
    record { cases = rw items c.self.view_is }
