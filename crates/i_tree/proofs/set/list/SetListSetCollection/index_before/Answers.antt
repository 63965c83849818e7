use Rattle.std.proofs.Common.{◌≡◌, ◌+◌, ◌-◌, suc, sym, ◌∙◌, ap, arith}
use Rattle.i_tree.proofs.Sets.Laws.{just_before, before_position, position_of}
use Rattle.i_tree.proofs.set.list.SetListSetCollection.index_before.Goals as goal

pub returns-then-index-eq0 : goal.returns-then-index-eq0
returns-then-index-eq0 g c =
    let zero_is : c.args.index ≡ 0 = omega arith in
    rw zero_is (sym (before_position 4294967295 0 c.args.self.now.values.items 0 (rw zero_is at (position_of _ c.args.index c.requires.live))))

pub returns-else-index-eq0 : goal.returns-else-index-eq0
returns-else-index-eq0 g c =
    let next : c.args.index ≡ suc (c.args.index - 1) = omega arith in
    let here : 0 + c.args.index ≡ c.args.index = omega arith in
    sym ((rw here at (before_position 4294967295 0 c.args.self.now.values.items c.args.index (position_of _ c.args.index c.requires.live))) ∙ ap (just_before 4294967295 0) next ∙ omega arith)
