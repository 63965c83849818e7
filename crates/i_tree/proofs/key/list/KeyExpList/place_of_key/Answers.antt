use Rattle.std.proofs.Common.{rules}
use Rattle.i_tree.proofs.key.list.KeyExpList.place_of_key.Goals as goal

pub returns-clause-place : goal.returns-clause-place
returns-clause-place g c = rw (← c.self.view_is) (rw c.deref.ensures.value at (c.search.ensures.place (λ k. g.K.ExpiredKey.order k c.args.key) (λ i d h r e. search rules)))

pub returns-clause-within : goal.returns-clause-within
returns-clause-within g c = rw (← c.self.view_is) (rw c.deref.ensures.value at c.search.ensures.within)

pub returns-clause-cost : goal.returns-clause-cost
returns-clause-cost g c = rw (← c.self.view_is) (rw c.deref.ensures.value at c.search.ensures.cost)
