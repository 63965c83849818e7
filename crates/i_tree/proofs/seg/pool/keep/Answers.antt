use Rattle.std.proofs.Common.{arith, ◌∷◌, [], length-append}
use Rattle.i_tree.proofs.Ranges.Pools.{IsKept-set, AreSpare-taken, IsKept-last, AreSpare-last, popped, nothing_left}
use Rattle.i_tree.proofs.seg.pool.keep.Goals as goal

pub index_mut-requires : goal.index_mut-requires
index_mut-requires g c =
    let at = popped (λ e. e.named) _ _ _ _ _ c.in-Some.ensures.items c.requires.spare in
    let len = c.args.pool.now.ok.0 in omega (arith, at.0)

pub returns-in-Some-clause-ok : goal.returns-in-Some-clause-ok
returns-in-Some-clause-ok g c =
    let at = popped (λ e. e.named) _ _ _ _ _ c.in-Some.ensures.items c.requires.spare in
    IsKept-set (λ e. e.named) _ _ c.args.entity c.args.entity at.0 at.1

pub returns-in-Some-clause-spare : goal.returns-in-Some-clause-spare
returns-in-Some-clause-spare g c =
    let at = popped (λ e. e.named) _ _ _ _ _ c.in-Some.ensures.items c.requires.spare in
    rw c.pop.ensures.capacity (AreSpare-taken (λ e. e.named) _ _ c.args.entity c.args.entity at.0 c.requires.held _ _ _ c.in-Some.ensures.items c.requires.spare)

pub returns-clause-ok : goal.returns-clause-ok
returns-clause-ok g c = rw (c.in_ok-push.ensures.items, c.len-at.ensures, c.args.pool.now.ok.0) (IsKept-last (λ e. e.named) c.args.pool.now.items c.args.entity)

pub returns-clause-spare : goal.returns-clause-spare
returns-clause-spare g c =
    let none = nothing_left c.pop.new.self.items (let len = c.pop.new.self.ok.0 in let left = c.in_default.ensures.cases.1 in omega arith) in
    let empty = nothing_left c.args.spares.now.items (let len = c.args.spares.now.ok.0 in let left = c.in_default.ensures.cases.0 in omega arith) in
    let len = c.args.pool.now.ok.0 in
    let at = c.len-at.ensures in
    let room = c.in_ok-reserve.ensures.ok in
    let more = length-append c.args.pool.now.items (c.args.entity ∷ []) in
    rw (c.in_ok-push.ensures.items, c.in_ok-reserve.ensures.items, none) (AreSpare-last (λ e. e.named) _ c.args.entity _ _ c.requires.held (omega arith) (rw empty at c.requires.spare))
