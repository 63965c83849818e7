use contract.BorrowLft.{⊑_static}
use Rattle.std.proofs.Common.{IfOk, ◌<◌}
use Rattle.i_tree.specs.Search.{stop_of}
use Rattle.i_tree.proofs.Lives.{within_entry}
use Rattle.std.proofs.Common.{◌≡◌, ◌≤◌, length, IfErr, ℕ, Result, Ok, Err, subst, arith}
use Rattle.std.specs.Vec.{vec_len}
use Rattle.i_tree.specs.Tree.Search.{IsFound}
use Rattle.i_tree.specs.Row.{way_of}
use Rattle.i_tree.proofs.Keys.RowKept.{live_mid, IsFound-near, IsParted-near, IsParted-whole, entry_found, CountsAtMost-fewer}
use Rattle.i_tree.proofs.key.row.KeyExpRow.look.Goals as goal

within_of : (m n : ℕ) (found : Result ℕ ℕ) → m ≤ n → IfErr found (λ at. (0 ≤ at) × (at ≤ m)) → IfErr found (λ at. at ≤ n)
within_of m n (Ok at) le h = tt
within_of m n (Err at) le h = omega (arith, le, h.1)

pub returns-clause-found : goal.returns-clause-found
returns-clause-found g c = λ by depends mono.
    let kept = rw (← c.self.view_is) at c.advance.ensures.kept in
    let same = live_mid g.E.Ord.cmp g.K.ExpiredKey.expires c.args.time _ _ kept in
    let found = rw c.deref.ensures.value at c.search-found.ensures in
    let long : length c.self.inside.entries.items ≡ vec_len c.self.inside.entries = rw c.deref.ensures.value at c.deref.ensures.len in
    let near = rw c.deref-2.ensures.value at c.value_near.ensures in
    subst (λ list. IsFound by list (way_of c.value_near.result)) same
    (IsFound-near g.E.Ord.cmp g.K.ExpiredKey.expires by c.args.time c.self.inside.entries.items c.search-found.result c.value_near.result
    found.found_within
    (within_of c.len.result (length c.self.inside.entries.items) c.search-found.result (omega (arith, long, c.len.ensures)) found.within)
    found.found
    found.last
    (found.equal by (rw same depends))
    (found.parted by (rw same depends) (rw same mono) (IsParted-whole g.E.Ord.cmp g.K.ExpiredKey.expires by c.args.time c.self.inside.entries.items c.len.result (omega (arith, long, c.len.ensures))))
    near.equal near.first near.below)

pub returns-clause-parted : goal.returns-clause-parted
returns-clause-parted g c = λ by depends mono.
    let kept = rw (← c.self.view_is) at c.advance.ensures.kept in
    let same = live_mid g.E.Ord.cmp g.K.ExpiredKey.expires c.args.time _ _ kept in
    let found = rw c.deref.ensures.value at c.search-found.ensures in
    let long : length c.self.inside.entries.items ≡ vec_len c.self.inside.entries = rw c.deref.ensures.value at c.deref.ensures.len in
    let near = rw c.deref-2.ensures.value at c.value_near.ensures in
    rw c.stop.ensures
    (IsParted-near g.E.Ord.cmp g.K.ExpiredKey.expires by c.args.time c.self.inside.entries.items c.search-found.result c.value_near.result
    (entry_found g.E.Ord.cmp g.K.ExpiredKey.expires by c.args.time c.self.inside.entries.items c.search-found.result found.found_within)
    (found.parted by (rw same depends) (rw same mono) (IsParted-whole g.E.Ord.cmp g.K.ExpiredKey.expires by c.args.time c.self.inside.entries.items c.len.result (omega (arith, long, c.len.ensures))))
    near.equal)

pub returns-clause-cost : goal.returns-clause-cost
returns-clause-cost g c =
    CountsAtMost-fewer _ _ _ _ (rw (← c.self.view_is) at c.advance.ensures.kept).stored (rw c.deref.ensures.value at c.search-found.ensures.cost)

stop_within : (m n : ℕ) (found : Result ℕ ℕ) → m ≤ n → IfOk found (λ at. at < n) → IfErr found (λ at. (0 ≤ at) × (at ≤ m)) → stop_of found ≤ n
stop_within m n (Ok at) le inside h = omega (arith, inside)
stop_within m n (Err at) le inside h = omega (arith, le, h.1)

pub returns-clause-kept : goal.returns-clause-kept
returns-clause-kept g c = rw (← c.self.view_is) at c.advance.ensures.kept

pub returns-clause-sound : goal.returns-clause-sound
returns-clause-sound g c = c.self.invariant

pub invariant_of-self : goal.invariant_of-self
invariant_of-self g c = c.self.invariant

pub len-requires : goal.len-requires
len-requires g c κs = λ h. (within_entry κs.1.0 g.row.K.lives g.row.V.lives h.0 h.1, ⊑_static κs.1.1.0)

pub deref-requires : goal.deref-requires
deref-requires g c κs = λ h. (within_entry κs.1.0 g.row.K.lives g.row.V.lives h.0 h.1, ⊑_static κs.1.1.0)

pub deref-requires-2 : goal.deref-requires-2
deref-requires-2 g c κs = λ h. (within_entry κs.1.0 g.row.K.lives g.row.V.lives h.0 h.1, ⊑_static κs.1.1.0)

pub advance-requires : goal.advance-requires
advance-requires g c = record { in_time = c.requires.in_time }

pub search-found-requires-clause-order : goal.search-found-requires-clause-order
search-found-requires-clause-order g c = omega arith

pub search-found-requires-clause-within : goal.search-found-requires-clause-within
search-found-requires-clause-within g c = omega (arith, c.len.ensures, c.deref.ensures.len)

pub returns-clause-within : goal.returns-clause-within
returns-clause-within g c =
    let found = rw c.deref.ensures.value at c.search-found.ensures in
    let long : length c.self.inside.entries.items ≡ vec_len c.self.inside.entries = rw c.deref.ensures.value at c.deref.ensures.len in
    rw c.stop.ensures (stop_within c.len.result (length c.self.inside.entries.items) c.search-found.result (omega (arith, long, c.len.ensures)) found.found_within found.within)

pub value_near-requires-clause-found_within : goal.value_near-requires-clause-found_within
value_near-requires-clause-found_within g c = rw c.deref-2.ensures.value (rw c.deref.ensures.value at c.search-found.ensures.found_within)

pub value_near-requires-clause-within : goal.value_near-requires-clause-within
value_near-requires-clause-within g c =
    let found = rw c.deref.ensures.value at c.search-found.ensures in
    let long : length c.self.inside.entries.items ≡ vec_len c.self.inside.entries = rw c.deref.ensures.value at c.deref.ensures.len in
    rw c.deref-2.ensures.value (within_of c.len.result (length c.self.inside.entries.items) c.search-found.result (omega (arith, long, c.len.ensures)) found.within)
