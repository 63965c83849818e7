-- The bag of ranges: what a collection of expiring ranges stands for.
--
-- E and V are the types of times and values. `cmp` orders times, and `expires` is the last time at which a value is
-- still live.
use Rattle.std.specs.Prelude.{◌≡◌, ◌≢◌, ℕ, ◌+◌, ◌-◌, ◌^◌, ◌<◌, List, [], ◌∷◌, map, filter, Bool, true, ◌&&◌, nat_le, Option, Some, None, IsPermutation}
use Rattle.std.specs.Option.{ForSome}
use Rattle.std.specs.Ordering.{is_ge}
use Rattle.std.specs.declared.cmp.Ordering.{Ordering}
use Rattle.std.specs.declared.cmp.Ordering.TheVariants.{Less}
use Rattle.i_tree.specs.Layout.{Buckets}

-- a value, and the first and the last bucket of its range
pub record Insertion (V : Type 0) : Type 0 where
  pub first : ℕ
  pub last : ℕ
  pub value : V

-- the buckets, the latest time that a call named and the insertions since the collection was made or cleared, and those
-- of them that are live at the latest time, in any order
pub record Bag (E V : Type 0) : Type 0 where
  pub buckets : Buckets
  pub latest_time : Option E
  pub insertions : ℕ
  pub live : List (Insertion V)

-- the collection was made or cleared
abbrev pub empty_bag : {E V : Type 0} → Buckets → Bag E V
empty_bag buckets = record { buckets = buckets; latest_time = None; insertions = 0; live = [] }

-- a value is live as long as its expiration isn't before the time
abbrev pub is_still_live : {E V : Type 0} → (E → E → Ordering) → (V → E) → E → V → Bool
is_still_live cmp expires time value = is_ge (cmp (expires value) time)

-- the insertions that are live at the time
abbrev pub still_live : {E V : Type 0} → (E → E → Ordering) → (V → E) → E → List (Insertion V) → List (Insertion V)
still_live cmp expires time insertions = filter (λ insertion. is_still_live cmp expires time insertion.value) insertions

-- a value is live at the latest time; where there is none, each is
abbrev pub is_live_yet : {E V : Type 0} → (E → E → Ordering) → (V → E) → Option E → V → Bool
is_live_yet cmp expires None value = true
is_live_yet cmp expires (Some time) value = is_still_live cmp expires time value

-- the insertion has a bucket from low to high
abbrev pub meets : {V : Type 0} → ℕ → ℕ → Insertion V → Bool
meets low high insertion = nat_le insertion.first high && nat_le low insertion.last

-- the values of the live insertions that have a bucket from low to high
abbrev pub values_met : {E V : Type 0} → (E → E → Ordering) → (V → E) → ℕ → ℕ → E → Bag E V → List V
values_met cmp expires low high time bag = map (λ insertion. insertion.value) (filter (meets low high) (still_live cmp expires time bag.live))

-- times don't go back: the time isn't before the latest one
abbrev pub IsInTime : {E V : Type 0} → (E → E → Ordering) → E → Bag E V → Type 0
IsInTime cmp time bag = ForSome bag.latest_time (λ latest. cmp time latest ≢ Less)

-- fewer than 2^31 - 1 insertions since the collection was made or cleared
abbrev pub BagHasRoom : {E V : Type 0} → Bag E V → Type 0
BagHasRoom bag = bag.insertions < 2 ^ 31 - 1

-- the bag with one insertion more, which is kept with the others as long as each is live
pub record IsAdded {E V : Type 0} (cmp : E → E → Ordering) (expires : V → E) (insertion : Insertion V) (old new : Bag E V) : Type 0 where
  pub buckets : new.buckets ≡ old.buckets
  pub latest_time : new.latest_time ≡ old.latest_time
  pub insertions : new.insertions ≡ old.insertions + 1
  pub live : IsPermutation (filter (λ kept. is_live_yet cmp expires old.latest_time kept.value) (insertion ∷ old.live)) new.live
  pub later : (t : E) → IsInTime cmp t old → IsPermutation (still_live cmp expires t (insertion ∷ old.live)) (still_live cmp expires t new.live)

-- after a walk at this time what was live then is kept, and nothing else, now and at every later time
pub record IsPassed {E V : Type 0} (cmp : E → E → Ordering) (expires : V → E) (time : E) (old new : Bag E V) : Type 0 where
  pub buckets : new.buckets ≡ old.buckets
  pub latest_time : new.latest_time ≡ Some time
  pub insertions : new.insertions ≡ old.insertions
  pub live : new.live ≡ still_live cmp expires time old.live
  pub later : (t : E) → cmp t time ≢ Less → still_live cmp expires t new.live ≡ still_live cmp expires t old.live
