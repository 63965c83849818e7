use Rattle.std.proofs.Common.{ap, sym, ◌∙◌}
use Rattle.i_tree.proofs.Keys.Answering.{value_before_place-index}
use Rattle.i_tree.proofs.key.list.KeyExpList.value_before.Goals as goal

pub returns-else-at-eq0 : goal.returns-else-at-eq0
returns-else-at-eq0 g c =
    rw (← c.self.view_is)
    (ap (λ (entry : g.row.K.Denot × g.row.V.Denot). entry.1) c.index.ensures
    ∙ sym (value_before_place-index c.args.default c.self.inside.entries.items c.args.at c.index.result.now c.if-at-eq0.false (rw (← c.self.view_is) at c.requires)))
