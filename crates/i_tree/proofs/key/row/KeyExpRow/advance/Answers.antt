use Rattle.std.proofs.Common.{◌≡◌, refl, rules, arith}
use Rattle.std.proofs.lemmas.Fn.{filter_same}
use Rattle.i_tree.specs.LiveList.{live_at}
use Rattle.i_tree.proofs.Keys.RowKept.{IsSound-row, IsAdvanced-row, live_at-dropped, length-dropped}
use Rattle.i_tree.proofs.key.row.KeyExpRow.advance.Goals as goal

pub invariant_of-self : goal.invariant_of-self
invariant_of-self g c =
    let left : c.retain.new.self.items ≡ live_at g.E.Ord.cmp g.K.ExpiredKey.expires c.args.time c.self.inside.entries.items = filter_same _ _ _ (λ x b f' k. search rules) _ _ c.retain.ensures.filtered in
    IsSound-row g.E.Ord.cmp g.met.E.Ord.total g.K.ExpiredKey.expires g.K.ExpiredKey.order _ c.args.time (rw (← c.self.view_is) at c.requires.in_time) c.self.invariant c.retain.new.self.items
    (live_at-dropped g.E.Ord.cmp g.met.E.Ord.total g.K.ExpiredKey.expires g.K.ExpiredKey.order c.args.time _ _ left) (length-dropped g.E.Ord.cmp g.met.E.Ord.total g.K.ExpiredKey.expires g.K.ExpiredKey.order c.args.time _ _ left)

pub invariant_of-self-else-len-self : goal.invariant_of-self-else-len-self
invariant_of-self-else-len-self g c =
    IsSound-row g.E.Ord.cmp g.met.E.Ord.total g.K.ExpiredKey.expires g.K.ExpiredKey.order _ c.args.time (rw (← c.self.view_is) at c.requires.in_time) c.self.invariant c.self.inside.entries.items refl (omega arith)

pub returns-then-len-self-clause-kept : goal.returns-then-len-self-clause-kept
returns-then-len-self-clause-kept g c =
    let left : c.retain.new.self.items ≡ live_at g.E.Ord.cmp g.K.ExpiredKey.expires c.args.time c.self.inside.entries.items = filter_same _ _ _ (λ x b f' k. search rules) _ _ c.retain.ensures.filtered in
    rw (← c.self.view_is)
    (IsAdvanced-row g.E.Ord.cmp g.met.E.Ord.total g.K.ExpiredKey.expires g.K.ExpiredKey.order _ c.args.time (rw (← c.self.view_is) at c.requires.in_time) c.self.invariant c.retain.new.self.items
    (live_at-dropped g.E.Ord.cmp g.met.E.Ord.total g.K.ExpiredKey.expires g.K.ExpiredKey.order c.args.time _ _ left) (length-dropped g.E.Ord.cmp g.met.E.Ord.total g.K.ExpiredKey.expires g.K.ExpiredKey.order c.args.time _ _ left))

pub returns-then-len-self-clause-sound : goal.returns-then-len-self-clause-sound
returns-then-len-self-clause-sound g c = invariant_of-self g c

pub returns-else-len-self-clause-kept : goal.returns-else-len-self-clause-kept
returns-else-len-self-clause-kept g c =
    rw (← c.self.view_is)
    (IsAdvanced-row g.E.Ord.cmp g.met.E.Ord.total g.K.ExpiredKey.expires g.K.ExpiredKey.order _ c.args.time (rw (← c.self.view_is) at c.requires.in_time) c.self.invariant c.self.inside.entries.items refl (omega arith))

pub returns-else-len-self-clause-sound : goal.returns-else-len-self-clause-sound
returns-else-len-self-clause-sound g c = invariant_of-self-else-len-self g c
