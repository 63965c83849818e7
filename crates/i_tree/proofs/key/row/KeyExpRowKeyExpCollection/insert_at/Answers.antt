use Rattle.std.proofs.lemmas.Result.{err_from_is_err_and}
use Rattle.i_tree.proofs.Keys.Expiry.{length-filter_le}
use Rattle.std.specs.declared.cmp.Ordering.{Ordering}
use Rattle.i_tree.specs.Steps.{Counts, CountsAtMost}
use Rattle.i_tree.specs.Tree.Kept.{live_since}
use Rattle.std.proofs.Common.{ℕ, List, Option, Some, None, ◌≡◌, ◌+◌, ◌≤◌, length, true, false, refl, ◌∙◌, arith, rules}
use Rattle.i_tree.specs.LiveList.{is_live}
use Rattle.i_tree.specs.Row.{kept_in, from_in, end_in}
use Rattle.i_tree.proofs.Keys.Insertion.{IsInserted-expired, IsSound-expired}
use Rattle.i_tree.proofs.Keys.RowInsertion.{take-put, drop-put, next_within, next_beyond, parted_by, monotone, none_equal, IsInserted-row, IsSound-inserted, before_next, after_next}
use Rattle.i_tree.proofs.key.row.KeyExpRowKeyExpCollection.insert_at.Goals as goal

none_counted : (counts : Counts) (n : ℕ) → CountsAtMost counts counts n
none_counted counts n = record { never_falls = omega arith; bound = omega arith; pairs = refl }

one_more : (n : ℕ) → n ≤ n + 1
one_more n = omega arith

live_few : {K E V : Type 0} (cmp : E → E → Ordering) (expires : K → E) (latest : Option E) (entries : List (K × V)) → length (live_since cmp expires latest entries) ≤ length entries
live_few cmp expires None entries = omega arith
live_few cmp expires (Some t) entries = length-filter_le (λ entry. is_live cmp expires t entry.0) entries

pub returns-then-not-is_gt-clause-before : goal.returns-then-not-is_gt-clause-before
returns-then-not-is_gt-clause-before g c =
    let same = rw (← c.self.view_is) at c.set_time.ensures.entries in
    let kept = rw (← c.self.view_is) at c.set_time.ensures.kept in
    let inside = rw c.deref.ensures.value at c.within-from.ensures.within in
    let from_is : c.within-from.result.from ≡ from_in (length c.args.self.now.entries) c.args.place = rw same at (rw c.deref.ensures.value at c.within-from.ensures.from) in
    before_next g.E.Ord.cmp g.met.E.Ord.total g.K.ExpiredKey.expires c.args.self.now c.args.time c.requires.in_time c.args.place c.self.inside.latest_time kept.latest_time c.self.inside.entries.items (c.self.inside.insertions + 1) _ _
    c.within-from.ensures.order inside (rw (from_is, same) refl)

pub returns-then-not-is_gt-clause-after : goal.returns-then-not-is_gt-clause-after
returns-then-not-is_gt-clause-after g c =
    let same = rw (← c.self.view_is) at c.set_time.ensures.entries in
    let kept = rw (← c.self.view_is) at c.set_time.ensures.kept in
    let inside = rw c.deref.ensures.value at c.within-from.ensures.within in
    let end_is : c.within-from.result.end ≡ end_in (length c.args.self.now.entries) c.args.place = rw same at (rw c.deref.ensures.value at c.within-from.ensures.end) in
    after_next g.E.Ord.cmp g.met.E.Ord.total g.K.ExpiredKey.expires c.args.self.now c.args.time c.requires.in_time c.args.place c.self.inside.latest_time kept.latest_time c.self.inside.entries.items (c.self.inside.insertions + 1) _ _
    c.within-from.ensures.order inside (rw (end_is, same) refl)

pub unreachable-requires : goal.unreachable-requires
unreachable-requires g c =
    let same = rw (← c.self.view_is) at c.set_time.ensures.entries in
    let kept = rw (← c.self.view_is) at c.set_time.ensures.kept in
    let sound = rw (← c.self.view_is) at c.set_time.ensures.sound in
    none_equal g.E.Ord.cmp g.met.E.Ord.total g.K.ExpiredKey.expires g.K.ExpiredKey.order c.args.self.now _ c.args.time kept sound (c.args.key, c.args.val) c.requires.lawful c.requires.new_key c.in_default.field-0 (rw c.deref-2.ensures.value at c.in_default.ensures.found_within) ((rw c.deref-2.ensures.value at c.in_default.ensures.found) (c.args.key, c.args.val))
    ((rw c.deref-2.ensures.value at c.in_default.ensures.equal) (λ k. g.K.ExpiredKey.order k c.args.key) (λ i d h r e. search rules) (c.args.key, c.args.val))

pub invariant_of-self-2 : goal.invariant_of-self-2
invariant_of-self-2 g c =
    let same = rw (← c.self.view_is) at c.set_time.ensures.entries in
    let kept = rw (← c.self.view_is) at c.set_time.ensures.kept in
    let inside = rw c.deref.ensures.value at c.within-from.ensures.within in
    let sound = rw (← c.self.view_is) at c.set_time.ensures.sound in
    let live : is_live g.E.Ord.cmp g.K.ExpiredKey.expires c.args.time c.args.key ≡ true = rw (← c.expiration.ensures, ← c.cmp.ensures, ← c.is_gt.ensures) c.if-not-is_gt.false in
    let from_is : c.within-from.result.from ≡ from_in (length c.args.self.now.entries) c.args.place = rw same at (rw c.deref.ensures.value at c.within-from.ensures.from) in
    let end_is : c.within-from.result.end ≡ end_in (length c.args.self.now.entries) c.args.place = rw same at (rw c.deref.ensures.value at c.within-from.ensures.end) in
    let parted =
    (rw c.deref-2.ensures.value at c.in-Err.ensures.parted) (λ k. g.K.ExpiredKey.order k c.args.key) (λ i d h r e. search rules)
    (monotone g.E.Ord.cmp g.met.E.Ord.total g.K.ExpiredKey.expires g.K.ExpiredKey.order c.args.self.now _ c.args.time kept sound (c.args.key, c.args.val) c.requires.lawful)
    (parted_by g.E.Ord.cmp g.met.E.Ord.total g.K.ExpiredKey.expires g.K.ExpiredKey.order c.args.self.now _ c.args.time kept sound (c.args.key, c.args.val) c.requires.in_time same c.args.place c.requires.below c.requires.above _ _ from_is end_is) in
    let put = c.in_ok-filled.ensures.ok in
    IsSound-inserted g.E.Ord.cmp g.met.E.Ord.total g.K.ExpiredKey.expires g.K.ExpiredKey.order c.args.self.now _ c.args.time kept sound (c.args.key, c.args.val) c.requires.lawful c.requires.new_key live c.put.new.entries.items c.in-Err.at c.in_ok-filled.filled put parted

pub returns-clause-ok : goal.returns-clause-ok
returns-clause-ok g c =
    let same = rw (← c.self.view_is) at c.set_time.ensures.entries in
    let kept = rw (← c.self.view_is) at c.set_time.ensures.kept in
    let inside = rw c.deref.ensures.value at c.within-from.ensures.within in
    let sound = rw (← c.self.view_is) at c.set_time.ensures.sound in
    let live : is_live g.E.Ord.cmp g.K.ExpiredKey.expires c.args.time c.args.key ≡ true = rw (← c.expiration.ensures, ← c.cmp.ensures, ← c.is_gt.ensures) c.if-not-is_gt.false in
    let from_is : c.within-from.result.from ≡ from_in (length c.args.self.now.entries) c.args.place = rw same at (rw c.deref.ensures.value at c.within-from.ensures.from) in
    let end_is : c.within-from.result.end ≡ end_in (length c.args.self.now.entries) c.args.place = rw same at (rw c.deref.ensures.value at c.within-from.ensures.end) in
    let parted =
    (rw c.deref-2.ensures.value at c.in-Err.ensures.parted) (λ k. g.K.ExpiredKey.order k c.args.key) (λ i d h r e. search rules)
    (monotone g.E.Ord.cmp g.met.E.Ord.total g.K.ExpiredKey.expires g.K.ExpiredKey.order c.args.self.now _ c.args.time kept sound (c.args.key, c.args.val) c.requires.lawful)
    (parted_by g.E.Ord.cmp g.met.E.Ord.total g.K.ExpiredKey.expires g.K.ExpiredKey.order c.args.self.now _ c.args.time kept sound (c.args.key, c.args.val) c.requires.in_time same c.args.place c.requires.below c.requires.above _ _ from_is end_is) in
    let put = c.in_ok-filled.ensures.ok in
    IsInserted-row g.E.Ord.cmp g.met.E.Ord.total g.K.ExpiredKey.expires g.K.ExpiredKey.order c.args.self.now _ c.args.time kept sound (c.args.key, c.args.val) c.requires.lawful c.requires.new_key live c.put.new.entries.items c.in-Err.at c.in_ok-filled.filled put parted

pub returns-clause-before : goal.returns-clause-before
returns-clause-before g c =
    let same = rw (← c.self.view_is) at c.set_time.ensures.entries in
    let kept = rw (← c.self.view_is) at c.set_time.ensures.kept in
    let inside = rw c.deref.ensures.value at c.within-from.ensures.within in
    let from_is : c.within-from.result.from ≡ from_in (length c.args.self.now.entries) c.args.place = rw same at (rw c.deref.ensures.value at c.within-from.ensures.from) in
    let put = c.in_ok-filled.ensures.ok in
    let next = c.next_end.ensures in
    before_next g.E.Ord.cmp g.met.E.Ord.total g.K.ExpiredKey.expires c.args.self.now c.args.time c.requires.in_time c.args.place c.self.inside.latest_time kept.latest_time c.put.new.entries.items (c.self.inside.insertions + 1) c.within-from.result.from c.next_end.result
    (next_beyond _ _ _ _ _ _ _ _ put _ _ _ c.in-Err.ensures.within.0 c.in-Err.ensures.within.1 next.within next.beyond)
    (next_within _ _ _ _ _ _ _ _ put _ _ c.in-Err.ensures.within.1 inside next.within next.beyond)
    (take-put _ _ _ _ _ _ _ _ put _ c.in-Err.ensures.within.0 ∙ rw (from_is, same) refl)

pub returns-clause-after : goal.returns-clause-after
returns-clause-after g c =
    let same = rw (← c.self.view_is) at c.set_time.ensures.entries in
    let kept = rw (← c.self.view_is) at c.set_time.ensures.kept in
    let inside = rw c.deref.ensures.value at c.within-from.ensures.within in
    let end_is : c.within-from.result.end ≡ end_in (length c.args.self.now.entries) c.args.place = rw same at (rw c.deref.ensures.value at c.within-from.ensures.end) in
    let put = c.in_ok-filled.ensures.ok in
    let next = c.next_end.ensures in
    after_next g.E.Ord.cmp g.met.E.Ord.total g.K.ExpiredKey.expires c.args.self.now c.args.time c.requires.in_time c.args.place c.self.inside.latest_time kept.latest_time c.put.new.entries.items (c.self.inside.insertions + 1) c.within-from.result.from c.next_end.result
    (next_beyond _ _ _ _ _ _ _ _ put _ _ _ c.in-Err.ensures.within.0 c.in-Err.ensures.within.1 next.within next.beyond)
    (next_within _ _ _ _ _ _ _ _ put _ _ c.in-Err.ensures.within.1 inside next.within next.beyond)
    (drop-put _ _ _ _ _ _ _ _ put _ _ c.in-Err.ensures.within.1 next.within next.beyond ∙ rw (end_is, same) refl)

pub returns-clause-sound : goal.returns-clause-sound
returns-clause-sound g c = invariant_of-self-2 g c

pub returns-then-not-is_gt-clause-err : goal.returns-then-not-is_gt-clause-err
returns-then-not-is_gt-clause-err g c = tt

pub returns-in_err-filled-clause-ok : goal.returns-in_err-filled-clause-ok
returns-in_err-filled-clause-ok g c = rw ((err_from_is_err_and c.from_residual.result c.from_residual.ensures.1).1) tt

pub returns-in_err-filled-clause-before : goal.returns-in_err-filled-clause-before
returns-in_err-filled-clause-before g c = rw ((err_from_is_err_and c.from_residual.result c.from_residual.ensures.1).1) tt

pub returns-in_err-filled-clause-after : goal.returns-in_err-filled-clause-after
returns-in_err-filled-clause-after g c = rw ((err_from_is_err_and c.from_residual.result c.from_residual.ensures.1).1) tt

pub returns-clause-err : goal.returns-clause-err
returns-clause-err g c = tt

pub returns-clause-cost : goal.returns-clause-cost
returns-clause-cost g c =
    let same = rw (← c.self.view_is) at c.set_time.ensures.entries in
    rw same at (rw c.deref-2.ensures.value at c.search-found.ensures.cost)

pub returns-in_err-filled-clause-cost : goal.returns-in_err-filled-clause-cost
returns-in_err-filled-clause-cost g c =
    let same = rw (← c.self.view_is) at c.set_time.ensures.entries in
    rw same at (rw c.deref-2.ensures.value at c.search-found.ensures.cost)

pub returns-then-not-is_gt-clause-cost : goal.returns-then-not-is_gt-clause-cost
returns-then-not-is_gt-clause-cost g c =
    none_counted c.args.steps.now _

pub returns-then-not-is_gt-clause-ok : goal.returns-then-not-is_gt-clause-ok
returns-then-not-is_gt-clause-ok g c =
    let kept = rw (← c.self.view_is) at c.set_time.ensures.kept in
    let sound = rw (← c.self.view_is) at c.set_time.ensures.sound in
    let gone : is_live g.E.Ord.cmp g.K.ExpiredKey.expires c.args.time c.args.key ≡ false = rw (← c.expiration.ensures, ← c.cmp.ensures, ← c.is_gt.ensures) c.if-not-is_gt.true in
    IsInserted-expired g.E.Ord.cmp g.met.E.Ord.total g.K.ExpiredKey.expires g.K.ExpiredKey.order (c.args.key, c.args.val) c.args.time (kept_in g.E.Ord.cmp g.K.ExpiredKey.expires c.args.self.now) _ kept sound (length c.self.inside.entries.items) (one_more (length c.self.inside.entries.items)) (live_few g.E.Ord.cmp g.K.ExpiredKey.expires c.self.inside.latest_time c.self.inside.entries.items) gone

pub invariant_of-self : goal.invariant_of-self
invariant_of-self g c =
    let kept = rw (← c.self.view_is) at c.set_time.ensures.kept in
    let sound = rw (← c.self.view_is) at c.set_time.ensures.sound in
    IsSound-expired g.E.Ord.cmp g.met.E.Ord.total g.K.ExpiredKey.expires g.K.ExpiredKey.order (c.args.key, c.args.val) c.args.time (kept_in g.E.Ord.cmp g.K.ExpiredKey.expires c.args.self.now) _ kept sound (length c.self.inside.entries.items) (one_more (length c.self.inside.entries.items)) (live_few g.E.Ord.cmp g.K.ExpiredKey.expires c.self.inside.latest_time c.self.inside.entries.items)

pub returns-then-not-is_gt-clause-sound : goal.returns-then-not-is_gt-clause-sound
returns-then-not-is_gt-clause-sound g c =
    invariant_of-self g c

pub invariant_of-self-in_err-filled : goal.invariant_of-self-in_err-filled
invariant_of-self-in_err-filled g c =
    rw c.in_err-filled.ensures.err (rw (← c.self.view_is) at c.set_time.ensures.sound)

pub returns-in_err-filled-clause-sound : goal.returns-in_err-filled-clause-sound
returns-in_err-filled-clause-sound g c =
    invariant_of-self-in_err-filled g c

pub returns-in_err-filled-clause-err : goal.returns-in_err-filled-clause-err
returns-in_err-filled-clause-err g c =
    rw ((err_from_is_err_and c.from_residual.result c.from_residual.ensures.1).1, c.in_err-filled.ensures.err) (rw (← c.self.view_is) at c.set_time.ensures.kept)

pub search-found-requires-clause-order : goal.search-found-requires-clause-order
search-found-requires-clause-order g c = c.within-from.ensures.order

pub search-found-requires-clause-within : goal.search-found-requires-clause-within
search-found-requires-clause-within g c = rw c.deref-2.ensures.value (rw c.deref.ensures.value at c.within-from.ensures.within)
