use Rattle.std.proofs.Common.{◌≡◌, length, arith, rules}
use Rattle.std.proofs.lemmas.Fn.{filter_same}
use Rattle.i_tree.specs.LiveList.{live_at}
use Rattle.i_tree.proofs.Keys.Expiry.{length-advanced, IsSound-advanced, IsAdvanced-advanced}
use Rattle.i_tree.proofs.key.list.KeyExpList.advance.Goals as goal

pub invariant_of-self : goal.invariant_of-self
invariant_of-self g c =
    let left : c.retain.new.self.items ≡ live_at g.E.Ord.cmp g.K.ExpiredKey.expires c.args.time c.self.inside.entries.items = filter_same _ _ _ (λ x b f' k. search rules) _ _ c.retain.ensures.filtered in
    let kept = c.self.invariant in
    IsSound-advanced g.E.Ord.cmp g.met.E.Ord.total g.K.ExpiredKey.expires g.K.ExpiredKey.order c.args.time _ kept c.retain.new.self.items left
    (length c.retain.new.self.items) (omega arith) (length-advanced g.E.Ord.cmp g.met.E.Ord.total g.K.ExpiredKey.expires g.K.ExpiredKey.order c.args.time _ kept c.retain.new.self.items left)

pub returns-clause-sound : goal.returns-clause-sound
returns-clause-sound g c = invariant_of-self g c

pub returns-clause-kept : goal.returns-clause-kept
returns-clause-kept g c =
    let left : c.retain.new.self.items ≡ live_at g.E.Ord.cmp g.K.ExpiredKey.expires c.args.time c.self.inside.entries.items = filter_same _ _ _ (λ x b f' k. search rules) _ _ c.retain.ensures.filtered in
    let kept = c.self.invariant in
    rw (← c.self.view_is)
    (IsAdvanced-advanced g.E.Ord.cmp g.met.E.Ord.total g.K.ExpiredKey.expires g.K.ExpiredKey.order c.args.time _ kept c.retain.new.self.items left
    (length c.retain.new.self.items) (omega arith) (length-advanced g.E.Ord.cmp g.met.E.Ord.total g.K.ExpiredKey.expires g.K.ExpiredKey.order c.args.time _ kept c.retain.new.self.items left))
