use contract.BorrowLft.{⊑_static}
use Rattle.std.proofs.Common.{◌≡◌, ℕ, List, Result, ◌<◌, ◌≤◌, length, subst, arith}
use Rattle.std.specs.declared.cmp.Ordering.{Ordering}
use Rattle.i_tree.specs.Search.{place_of, compared, comparisons_of}
use Rattle.i_tree.specs.Steps.{Counts, CountsExactly, CountsAtMost}
use Rattle.i_tree.proofs.Lives.{within_entry}
use Rattle.i_tree.specs.LiveList.{live_at}
use Rattle.i_tree.proofs.Keys.Answering.{IsAnswer-at_Ok, IsAnswer-at_Err}
use Rattle.i_tree.proofs.key.list.KeyExpListKeyExpCollection.first_less_or_equal_by.Goals as goal

cost_of : (old new : Counts) (n stored : ℕ) (place : Result ℕ ℕ) → n ≤ stored → CountsExactly old new (compared n place) → CountsAtMost old new stored
cost_of old new n stored place fewer counts = record { never_falls = omega (arith, counts.comparisons); bound = omega (arith, counts.comparisons); pairs = counts.pairs }

exact_of : {K V : Type 0} (by : K → Ordering) (old new : Counts) (entries live : List (K × V)) (place : Result ℕ ℕ) → entries ≡ live → place ≡ place_of by entries → CountsExactly old new (compared (length entries) place) → CountsExactly old new (comparisons_of by live)
exact_of by old new entries live place same is counts =
    subst (λ list. CountsExactly old new (comparisons_of by list)) same (subst (λ r. CountsExactly old new (compared (length entries) r)) is counts)

pub returns-in-Ok-clause-answer : goal.returns-in-Ok-clause-answer
returns-in-Ok-clause-answer g c = λ by depends mono.
    let kept = rw (← c.self.view_is) at c.advance.ensures.kept in let place = rw c.deref.ensures.value at (c.in-Ok.ensures.place by (rw (c.deref.ensures.value, kept.entries) depends)) in
    IsAnswer-at_Ok by c.args.default c.self.inside.entries.items (live_at g.E.Ord.cmp g.K.ExpiredKey.expires c.args.time c.args.self.now.entries) kept.entries mono c.in-Ok.at c.index.result.now (rw c.deref.ensures.value at c.in-Ok.ensures.found_within) c.index.ensures place

pub returns-in-Err-clause-answer : goal.returns-in-Err-clause-answer
returns-in-Err-clause-answer g c = λ by depends mono.
    let kept = rw (← c.self.view_is) at c.advance.ensures.kept in let place = rw c.deref.ensures.value at (c.in-Err.ensures.place by (rw (c.deref.ensures.value, kept.entries) depends)) in
    rw (c.value_before.ensures, ← c.self.view_is)
    (IsAnswer-at_Err by c.args.default c.self.inside.entries.items (live_at g.E.Ord.cmp g.K.ExpiredKey.expires c.args.time c.args.self.now.entries) kept.entries mono c.in-Err.at place)

pub returns-in-Ok-clause-sound : goal.returns-in-Ok-clause-sound
returns-in-Ok-clause-sound g c = c.advance.ensures.sound

pub returns-in-Err-clause-sound : goal.returns-in-Err-clause-sound
returns-in-Err-clause-sound g c = c.advance.ensures.sound

pub returns-in-Ok-clause-kept : goal.returns-in-Ok-clause-kept
returns-in-Ok-clause-kept g c = c.advance.ensures.kept

pub returns-in-Err-clause-kept : goal.returns-in-Err-clause-kept
returns-in-Err-clause-kept g c = c.advance.ensures.kept

pub deref-requires : goal.deref-requires
deref-requires g c κs = λ h. (within_entry κs.1.0 g.row.K.lives g.row.V.lives h.0 h.1, ⊑_static κs.1.1.0)

pub advance-requires : goal.advance-requires
advance-requires g c κs = λ h. h

pub returns-in-Ok-clause-cost : goal.returns-in-Ok-clause-cost
returns-in-Ok-clause-cost g c =
    cost_of c.args.steps.now c.search.new.steps (length c.self.inside.entries.items) c.args.self.now.stored c.search.result (rw (← c.self.view_is) at c.advance.ensures.kept.stored) (rw c.deref.ensures.value at c.search.ensures.cost)

pub returns-in-Err-clause-cost : goal.returns-in-Err-clause-cost
returns-in-Err-clause-cost g c =
    cost_of c.args.steps.now c.search.new.steps (length c.self.inside.entries.items) c.args.self.now.stored c.search.result (rw (← c.self.view_is) at c.advance.ensures.kept.stored) (rw c.deref.ensures.value at c.search.ensures.cost)

pub returns-in-Ok-clause-exact : goal.returns-in-Ok-clause-exact
returns-in-Ok-clause-exact g c = λ by depends.
    let kept = rw (← c.self.view_is) at c.advance.ensures.kept in
    let cost = rw c.deref.ensures.value at c.search.ensures.cost in
    let place = rw c.deref.ensures.value at (c.search.ensures.place by (rw (c.deref.ensures.value, kept.entries) depends)) in
    exact_of by c.args.steps.now c.search.new.steps c.self.inside.entries.items (live_at g.E.Ord.cmp g.K.ExpiredKey.expires c.args.time c.args.self.now.entries) c.search.result kept.entries place cost

pub returns-in-Err-clause-exact : goal.returns-in-Err-clause-exact
returns-in-Err-clause-exact g c = λ by depends.
    let kept = rw (← c.self.view_is) at c.advance.ensures.kept in
    let cost = rw c.deref.ensures.value at c.search.ensures.cost in
    let place = rw c.deref.ensures.value at (c.search.ensures.place by (rw (c.deref.ensures.value, kept.entries) depends)) in
    exact_of by c.args.steps.now c.search.new.steps c.self.inside.entries.items (live_at g.E.Ord.cmp g.K.ExpiredKey.expires c.args.time c.args.self.now.entries) c.search.result kept.entries place cost

pub value_before-requires : goal.value_before-requires
value_before-requires g c = rw (← c.self.view_is) (rw c.deref.ensures.value at c.in-Err.ensures.within)

pub index-requires : goal.index-requires
index-requires g c =
    let within : c.in-Ok.at < length c.deref.result.now = c.in-Ok.ensures.found_within in
    omega (arith, within, c.deref.ensures.len)
