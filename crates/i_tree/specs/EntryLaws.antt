-- What a caller uses of live entries: which there are after an insertion and at a time, and which one a query answers.
use Rattle.std.specs.Prelude.{◌≡◌, ◌≢◌, List, Bool, true, ◌↔◌, ◌⊎◌, All, Contains}
use Rattle.std.specs.Ordering.{is_lt}
use Rattle.std.specs.declared.cmp.Ordering.{Ordering}
use Rattle.std.specs.declared.cmp.Ordering.TheVariants.{Less, Equal}
use Rattle.i_tree.specs.LiveList.{is_live, live_at, live_with, placed, IsRising, IsLawful}
use Rattle.i_tree.specs.KeyAnswers.{last_where, last_below, IsMonotone, IsAnswer}

-- along rising keys, comparing with a key is monotone where the order is lawful among them and the key
abbrev pub ComparingIsMonotone : Type 0 → Type 0 → Type 0
ComparingIsMonotone K V =
    (order : K → K → Ordering) (key : K) (entries : List (K × V)) → IsRising order entries → IsLawful order key entries → IsMonotone (λ k. order k key) entries

-- an entry is in the list after an insertion exactly if it is the new one or was there
abbrev pub InsertionAddsOne : Type 0 → Type 0 → Type 0
InsertionAddsOne K V =
    (order : K → K → Ordering) (new : K × V) (entries : List (K × V)) (entry : K × V)
    → Contains (placed order new entries) entry ↔ ((entry ≡ new) ⊎ Contains entries entry)

-- an entry is in the live list of a time exactly if it was there and is live
abbrev pub TimeKeepsTheLive : Type 0 → Type 0 → Type 0 → Type 0
TimeKeepsTheLive K E V =
    (cmp : E → E → Ordering) (expires : K → E) (time : E) (entries : List (K × V)) (entry : K × V)
    → Contains (live_at cmp expires time entries) entry ↔ (Contains entries entry × (is_live cmp expires time entry.0 ≡ true))

-- an entry is in the live list after an insertion exactly if it is the new one or was there, and is live
abbrev pub LiveInsertionAddsOne : Type 0 → Type 0 → Type 0 → Type 0
LiveInsertionAddsOne K E V =
    (cmp : E → E → Ordering) (expires : K → E) (order : K → K → Ordering) (new : K × V) (time : E) (entries : List (K × V)) (entry : K × V)
    → Contains (live_with cmp expires order new time entries) entry
    ↔ (((entry ≡ new) ⊎ Contains entries entry) × (is_live cmp expires time entry.0 ≡ true))

-- every entry passes the test
abbrev pub AllPass : {K V : Type 0} → (K × V → Bool) → List (K × V) → Type 0
AllPass test entries = All (λ entry. test entry ≡ true) entries

-- every entry that is live passes the test
abbrev pub AllLivePass : {K E V : Type 0} → (E → E → Ordering) → (K → E) → E → (K × V → Bool) → List (K × V) → Type 0
AllLivePass cmp expires time test entries = All (λ entry. is_live cmp expires time entry.0 ≡ true → test entry ≡ true) entries

-- all pass after an insertion exactly if the new one and all old ones do
abbrev pub TestsPassInsertion : Type 0 → Type 0 → Type 0
TestsPassInsertion K V =
    (test : K × V → Bool) (order : K → K → Ordering) (new : K × V) (entries : List (K × V))
    → AllPass test (placed order new entries) ↔ ((test new ≡ true) × AllPass test entries)

-- all of the live list pass exactly if each entry that is live does
abbrev pub TestsPassTime : Type 0 → Type 0 → Type 0 → Type 0
TestsPassTime K E V =
    (test : K × V → Bool) (cmp : E → E → Ordering) (expires : K → E) (time : E) (entries : List (K × V))
    → AllPass test (live_at cmp expires time entries) ↔ AllLivePass cmp expires time test entries

-- all of the live list pass after an insertion exactly if the new one and all old ones do, as far as they are live
abbrev pub TestsPassLiveInsertion : Type 0 → Type 0 → Type 0 → Type 0
TestsPassLiveInsertion K E V =
    (test : K × V → Bool) (cmp : E → E → Ordering) (expires : K → E) (order : K → K → Ordering) (new : K × V) (time : E) (entries : List (K × V))
    → AllPass test (live_with cmp expires order new time entries)
    ↔ ((is_live cmp expires time new.0 ≡ true → test new ≡ true) × AllLivePass cmp expires time test entries)

-- every other entry that `by` calls Less is below this one
abbrev pub IsAboveOthers : {K V : Type 0} → (K → K → Ordering) → (K → Ordering) → List (K × V) → K × V → Type 0
IsAboveOthers order by entries entry = All (λ other. by other.0 ≡ Less → (order other.0 entry.0 ≡ Less) ⊎ (other ≡ entry)) entries

-- the value of the greatest entry that `by` calls Less, or the default where it calls none so
pub data IsGreatestLess {K V : Type 0} (order : K → K → Ordering) (by : K → Ordering) (default : V) (entries : List (K × V)) (answer : V) : Type 0 where
  none : All (λ entry. by entry.0 ≢ Less) entries → answer ≡ default → IsGreatestLess order by default entries answer
  greatest : (k : K) → Contains entries (k, answer) → by k ≡ Less → IsAboveOthers order by entries (k, answer) → IsGreatestLess order by default entries answer

-- along rising keys the last that is Less is the greatest
abbrev pub LastIsGreatest : Type 0 → Type 0 → Type 0
LastIsGreatest K V =
    (order : K → K → Ordering) (by : K → Ordering) (default : V) (entries : List (K × V))
    → IsRising order entries → IsGreatestLess order by default entries (last_where (λ k. is_lt (by k)) default entries)

-- along rising keys the last below a key is the greatest
abbrev pub LastBelowIsGreatest : Type 0 → Type 0 → Type 0
LastBelowIsGreatest K V =
    (order : K → K → Ordering) (key : K) (default : V) (entries : List (K × V))
    → IsRising order entries → IsGreatestLess order (λ k. order k key) default entries (last_below order key default entries)

-- along rising keys of which none is Equal, what a search by `by` answers is the greatest that is Less
abbrev pub AnswerIsGreatest : Type 0 → Type 0 → Type 0
AnswerIsGreatest K V =
    (order : K → K → Ordering) (by : K → Ordering) (default : V) (entries : List (K × V)) (answer : V) → IsRising order entries
    → All (λ entry. by entry.0 ≢ Equal) entries → IsAnswer by default entries answer → IsGreatestLess order by default entries answer
