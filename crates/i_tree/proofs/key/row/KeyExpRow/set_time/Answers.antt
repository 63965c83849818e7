use Rattle.std.proofs.Common.{refl, arith}
use Rattle.i_tree.proofs.Keys.RowKept.{IsSound-row, IsAdvanced-row}
use Rattle.i_tree.proofs.key.row.KeyExpRow.set_time.Goals as goal

pub invariant_of-self : goal.invariant_of-self
invariant_of-self g c =
    IsSound-row g.E.Ord.cmp g.met.E.Ord.total g.K.ExpiredKey.expires g.K.ExpiredKey.order _ c.args.time (rw (← c.self.view_is) at c.requires.in_time) c.self.invariant c.self.inside.entries.items refl (omega arith)

pub returns-clause-kept : goal.returns-clause-kept
returns-clause-kept g c =
    rw (← c.self.view_is)
    (IsAdvanced-row g.E.Ord.cmp g.met.E.Ord.total g.K.ExpiredKey.expires g.K.ExpiredKey.order _ c.args.time (rw (← c.self.view_is) at c.requires.in_time) c.self.invariant c.self.inside.entries.items refl (omega arith))

pub returns-clause-sound : goal.returns-clause-sound
returns-clause-sound g c = invariant_of-self g c
