use contract.BorrowLft.{⊑_static}
use Rattle.std.proofs.lemmas.Result.{err_from_is_err_and}
use Rattle.i_tree.proofs.Lives.{within_unplaced}
use Rattle.std.proofs.Common.{rules, Result, Ok, Err, OnErr}
use Rattle.i_tree.specs.Tree.Entries.{tree_entries_of, unnamed}
use Rattle.i_tree.proofs.Keys.KeyInsertion.{none_equal-kept, vacant-kept, IsInserted-added, IsKept-added}
use Rattle.i_tree.proofs.Trees.Kept.{live_at-since, IsAdvanced-searched, IsKept-searched}
use Rattle.i_tree.proofs.key.tree.KeyExpTreeKeyExpCollection.insert.Goals as goal

on_err : {T E P : Type 0} (r : Result T E) → P → OnErr r P
on_err (Ok x) p = tt
on_err (Err e) p = p

pub unreachable-requires : goal.unreachable-requires
unreachable-requires g c =
    let in_time = rw (← c.self.view_is) at c.requires.in_time in
    let lawful = rw (← c.self.view_is) at c.requires.lawful in
    let unlike = rw (← c.self.view_is) at c.requires.new_key in
    none_equal-kept g.E.Ord.cmp g.met.E.Ord.total g.K.ExpiredKey.expires g.K.ExpiredKey.order (c.args.key, c.args.val) c.self.inside.latest_time c.self.inside.insertions c.args.time in_time c.self.inside.tree c.self.invariant lawful unlike c.search-way.new.tree c.search-way.ensures.tree c.search-way.result (c.search-way.ensures.way (λ k. g.K.ExpiredKey.order k c.args.key) (λ i d h r e. search rules)) c.in_default.field-0 c.in_default.is

pub insert-requires-clause-vacant : goal.insert-requires-clause-vacant
insert-requires-clause-vacant g c =
    let in_time = rw (← c.self.view_is) at c.requires.in_time in
    let lawful = rw (← c.self.view_is) at c.requires.lawful in
    let unlike = rw (← c.self.view_is) at c.requires.new_key in
    let vacant = vacant-kept g.E.Ord.cmp g.met.E.Ord.total g.K.ExpiredKey.expires g.K.ExpiredKey.order (c.args.key, c.args.val) c.self.inside.latest_time c.self.inside.insertions c.args.time in_time c.self.inside.tree c.self.invariant lawful unlike c.search-way.new.tree c.search-way.ensures.tree c.search-way.result (c.search-way.ensures.way (λ k. g.K.ExpiredKey.order k c.args.key) (λ i d h r e. search rules)) c.in-Vacant.parent c.in-Vacant.left c.in-Vacant.below c.in-Vacant.is in
    (vacant.deep, (vacant.before, (vacant.after, vacant.place)))

pub invariant_of-self : goal.invariant_of-self
invariant_of-self g c =
    rw c.in_err-insert.ensures.err
    (IsKept-searched g.E.Ord.cmp g.met.E.Ord.total g.K.ExpiredKey.expires g.K.ExpiredKey.order c.self.inside.latest_time c.self.inside.insertions c.args.time (rw (← c.self.view_is) at c.requires.in_time) c.self.inside.tree c.search-way.new.tree c.self.invariant c.search-way.ensures.tree)

pub returns-in_err-insert-clause-err : goal.returns-in_err-insert-clause-err
returns-in_err-insert-clause-err g c =
    on_err c.from_residual.result
    (rw (c.in_err-insert.ensures.err, ← c.self.view_is)
    (IsAdvanced-searched g.E.Ord.cmp g.met.E.Ord.total g.K.ExpiredKey.expires g.K.ExpiredKey.order c.self.inside.latest_time c.self.inside.insertions c.args.time (rw (← c.self.view_is) at c.requires.in_time) c.self.inside.tree c.search-way.new.tree c.self.invariant c.search-way.ensures.tree))

pub returns-in_err-insert-clause-sound : goal.returns-in_err-insert-clause-sound
returns-in_err-insert-clause-sound g c = (invariant_of-self g c).sound

pub returns-in_err-insert-clause-exact : goal.returns-in_err-insert-clause-exact
returns-in_err-insert-clause-exact g c =
    let exact = c.search-way.ensures.exact in
    rw (← c.self.view_is, live_at-since g.E.Ord.cmp g.met.E.Ord.total g.K.ExpiredKey.expires c.self.inside.latest_time c.args.time (rw (← c.self.view_is) at c.requires.in_time) (unnamed (tree_entries_of c.self.inside.tree)))
    record { number = exact.0; exact = exact.1.0; narrows = exact.1.1 (λ k. g.K.ExpiredKey.order k c.args.key) (λ i d h r e. search rules) }

pub invariant_of-self-2 : goal.invariant_of-self-2
invariant_of-self-2 g c =
    let in_time = rw (← c.self.view_is) at c.requires.in_time in
    let lawful = rw (← c.self.view_is) at c.requires.lawful in
    let unlike = rw (← c.self.view_is) at c.requires.new_key in
    let vacant = vacant-kept g.E.Ord.cmp g.met.E.Ord.total g.K.ExpiredKey.expires g.K.ExpiredKey.order (c.args.key, c.args.val) c.self.inside.latest_time c.self.inside.insertions c.args.time in_time c.self.inside.tree c.self.invariant lawful unlike c.search-way.new.tree c.search-way.ensures.tree c.search-way.result (c.search-way.ensures.way (λ k. g.K.ExpiredKey.order k c.args.key) (λ i d h r e. search rules)) c.in-Vacant.parent c.in-Vacant.left c.in-Vacant.below c.in-Vacant.is in
    IsKept-added g.E.Ord.cmp g.met.E.Ord.total g.K.ExpiredKey.expires g.K.ExpiredKey.order (c.args.key, c.args.val) c.self.inside.latest_time c.self.inside.insertions c.args.time in_time c.self.inside.tree c.self.invariant lawful unlike c.search-way.new.tree c.search-way.ensures.tree c.insert.new.self c.in-Vacant.parent c.in-Vacant.left vacant c.in_ok-insert.field-0 (c.in_ok-insert.ensures.ok vacant.deep vacant.before vacant.after vacant.place)

pub returns-clause-ok : goal.returns-clause-ok
returns-clause-ok g c =
    let in_time = rw (← c.self.view_is) at c.requires.in_time in
    let lawful = rw (← c.self.view_is) at c.requires.lawful in
    let unlike = rw (← c.self.view_is) at c.requires.new_key in
    let vacant = vacant-kept g.E.Ord.cmp g.met.E.Ord.total g.K.ExpiredKey.expires g.K.ExpiredKey.order (c.args.key, c.args.val) c.self.inside.latest_time c.self.inside.insertions c.args.time in_time c.self.inside.tree c.self.invariant lawful unlike c.search-way.new.tree c.search-way.ensures.tree c.search-way.result (c.search-way.ensures.way (λ k. g.K.ExpiredKey.order k c.args.key) (λ i d h r e. search rules)) c.in-Vacant.parent c.in-Vacant.left c.in-Vacant.below c.in-Vacant.is in
    rw (← c.self.view_is)
    (IsInserted-added g.E.Ord.cmp g.met.E.Ord.total g.K.ExpiredKey.expires g.K.ExpiredKey.order (c.args.key, c.args.val) c.self.inside.latest_time c.self.inside.insertions c.args.time in_time c.self.inside.tree c.self.invariant lawful unlike c.search-way.new.tree c.search-way.ensures.tree c.insert.new.self c.in-Vacant.parent c.in-Vacant.left vacant c.in_ok-insert.field-0 (c.in_ok-insert.ensures.ok vacant.deep vacant.before vacant.after vacant.place))

pub returns-clause-sound : goal.returns-clause-sound
returns-clause-sound g c = (invariant_of-self-2 g c).sound

pub returns-clause-exact : goal.returns-clause-exact
returns-clause-exact g c =
    let exact = c.search-way.ensures.exact in
    rw (← c.self.view_is, live_at-since g.E.Ord.cmp g.met.E.Ord.total g.K.ExpiredKey.expires c.self.inside.latest_time c.args.time (rw (← c.self.view_is) at c.requires.in_time) (unnamed (tree_entries_of c.self.inside.tree)))
    record { number = exact.0; exact = exact.1.0; narrows = exact.1.1 (λ k. g.K.ExpiredKey.order k c.args.key) (λ i d h r e. search rules) }

pub branch-insert-requires : goal.branch-insert-requires
branch-insert-requires g c κs = λ h. (⊑_static κs.0, within_unplaced κs.1.0 g.row.K.lives g.row.V.lives h.0 h.1)

pub from_residual-requires : goal.from_residual-requires
from_residual-requires g c κs = λ h. (⊑_static κs.0, (within_unplaced κs.1.0 g.row.K.lives g.row.V.lives h.0 h.1, ⊑_static κs.1.1.0))

pub search-way-requires-clause-callable : goal.search-way-requires-clause-callable
search-way-requires-clause-callable g c = λ k d less. tt

pub returns-clause-err : goal.returns-clause-err
returns-clause-err g c = tt

pub returns-in_err-insert-clause-ok : goal.returns-in_err-insert-clause-ok
returns-in_err-insert-clause-ok g c = rw ((err_from_is_err_and c.from_residual.result c.from_residual.ensures.1).1) tt
