-- A list whose indexes are its positions, and a search from its front.
use Rattle.std.proofs.Common.{◌≡◌, ◌≢◌, ℕ, zero, suc, ◌+◌, ◌-◌, ◌^◌, ◌≤◌, ◌<◌, List, [], ◌∷◌, length, min, get_or, set, map, filter, Bool, true, false, not, ◌==◌, if◌then◌else◌, All, Contains, refl, ap, ◌∙◌, arith, add-one}
use Rattle.std.proofs.lemmas.Bool.Decides.{nat_tests}
use Rattle.std.proofs.lemmas.List.Elements.{All-nil, All-cons, All-head, All-tail, All-weaker}
use Rattle.std.specs.Prelude.{remove, insert}
use Rattle.std.specs.List.{enumerate_from}
use Rattle.std.specs.Cmp.{IsTotalOrder}
use Rattle.std.specs.Ordering.{is_lt, is_le, is_gt, ordering_index, ordering_reverse}
use Rattle.std.specs.declared.cmp.Ordering.{Ordering}
use Rattle.std.specs.declared.cmp.Ordering.TheVariants.{Less, Equal, Greater}
use Rattle.i_tree.specs.IndexedSet.{IndexedSet, IsNamed, AreRising, IsNewSetKey, values_of, values_without, with_value, index_just_before, last_index_where, index_sought, IsMonotoneBy}
use Rattle.i_tree.specs.SetSearch.{leading}
use Rattle.i_tree.specs.Steps.{Counts, CountsExactly, CountsAtMost}

-- the index before a position, counted from n
abbrev pub just_before : ℕ → ℕ → ℕ → ℕ
just_before none n zero = none
just_before none n (suc k) = n + k

pub length-enumerate : {V : Type 0} (n : ℕ) (xs : List V) → length (enumerate_from n xs) ≡ length xs
length-enumerate n [] = refl
length-enumerate n (x ∷ xs) = let rest = length-enumerate (n + 1) xs in omega arith

pub index_at : {V : Type 0} (n : ℕ) (xs : List V) (k d : ℕ) → k < length xs → get_or (map (λ entry. entry.0) (enumerate_from n xs)) k d ≡ n + k
index_at n [] k d h = absurd (omega arith)
index_at n (x ∷ xs) zero d h = omega arith
index_at n (x ∷ xs) (suc k) d h = let rest = index_at (n + 1) xs k d (omega arith) in omega arith

length-indexes : {V : Type 0} (n : ℕ) (xs : List V) → length (map (λ entry. entry.0) (enumerate_from n xs)) ≡ length xs
length-indexes n [] = refl
length-indexes n (x ∷ xs) = let rest = length-indexes (n + 1) xs in omega arith

pub entry_at : {V : Type 0} (n : ℕ) (xs : List V) (k : ℕ) (d : ℕ × V) (e : V) → k < length xs → get_or (enumerate_from n xs) k d ≡ (n + k, get_or xs k e)
entry_at n [] k d e h = absurd (omega arith)
entry_at n (x ∷ xs) zero d e h = let here : n ≡ n + 0 = omega arith in ap (λ i. (i, x)) here
entry_at n (x ∷ xs) (suc k) d e h = let next : n + 1 + k ≡ n + suc k = omega arith in entry_at (n + 1) xs k d e (omega arith) ∙ ap (λ i. (i, get_or xs k e)) next

-- an index is live just where it is a position
pub has_position : {V : Type 0} (xs : List V) (k : ℕ) → k < length xs → Contains (map (λ entry. entry.0) (enumerate_from 0 xs)) k
has_position xs k h = (k, omega (arith, length-indexes 0 xs), let at = index_at 0 xs k k h in omega arith)

pub position_of : {V : Type 0} (xs : List V) (k : ℕ) → Contains (map (λ entry. entry.0) (enumerate_from 0 xs)) k → k < length xs
position_of xs k has = let within : has.0 < length xs = omega (arith, has.1, length-indexes 0 xs) in let at = index_at 0 xs has.0 k within in omega (arith, has.2)

pub contains_entry : {V : Type 0} (xs : List V) (k : ℕ) (x : V) → k < length xs → x ≡ get_or xs k x → Contains (enumerate_from 0 xs) (k, x)
contains_entry xs k x h e = (k, omega (arith, length-enumerate 0 xs), entry_at 0 xs k (k, x) x h ∙ let here : 0 + k ≡ k = omega arith in rw (here, ← e) refl)

pub values-enumerate : {V : Type 0} (n : ℕ) (xs : List V) → map (λ entry. entry.1) (enumerate_from n xs) ≡ xs
values-enumerate n [] = refl
values-enumerate n (x ∷ xs) = ap (λ l. x ∷ l) (values-enumerate (n + 1) xs)

pub before_position : {V : Type 0} (none n : ℕ) (xs : List V) (k : ℕ) → k < length xs → index_just_before none (n + k) (enumerate_from n xs) ≡ just_before none n k
before_position none n [] k h = absurd (omega arith)
before_position none n (x ∷ xs) zero h = let here : (n == n + 0) ≡ true = grind (arith, nat_tests) in rw here refl
before_position none n (x ∷ xs) (suc k) h =
    let there : (n == n + suc k) ≡ false = grind (arith, nat_tests) in
    let next : n + suc k ≡ n + 1 + k = omega arith in
    rw there (rw next (before_position n (n + 1) xs k (omega arith))) ∙ by k where
      by : (k : ℕ) → just_before n (n + 1) k ≡ n + k
      by zero = omega arith
      by (suc k) = omega arith

past_all : {V : Type 0} (n m : ℕ) (xs : List V) → m < n → map (λ entry. entry.1) (filter (λ entry. not (entry.0 == m)) (enumerate_from n xs)) ≡ xs
past_all n m [] h = refl
past_all n m (x ∷ xs) h = let other : (n == m) ≡ false = grind (arith, nat_tests) in rw other (ap (λ l. x ∷ l) (past_all (n + 1) m xs (omega arith)))

pub without_position : {V : Type 0} (n m : ℕ) (xs : List V) (k : ℕ) → m ≡ n + k → k < length xs → map (λ entry. entry.1) (filter (λ entry. not (entry.0 == m)) (enumerate_from n xs)) ≡ remove xs k
without_position n m [] k e h = absurd (omega arith)
without_position n m (x ∷ xs) zero e h = let here : (n == m) ≡ true = grind (arith, nat_tests) in rw here (past_all (n + 1) m xs (omega arith))
without_position n m (x ∷ xs) (suc k) e h =
    let there : (n == m) ≡ false = grind (arith, nat_tests) in
    rw there (ap (λ l. x ∷ l) (without_position (n + 1) m xs k (omega arith) (omega arith)))

pub not_greater : (o : Ordering) → is_gt o ≡ false → is_le o ≡ true
not_greater Less e = refl
not_greater Equal e = refl
not_greater Greater e = cc

pub greater_above : (a b : Ordering) → is_gt a ≡ true → ordering_index a ≤ ordering_index b → is_le b ≡ false
greater_above Greater Greater e h = refl
greater_above Greater Less e h = absurd (omega arith)
greater_above Greater Equal e h = absurd (omega arith)
greater_above Less b e h = cc
greater_above Equal b e h = cc

module _ {K V : Type 0} (key : V → K) (by : K → Ordering) where
  none_passes : (none n : ℕ) (xs : List V) → All (λ value. is_le (by (key value)) ≡ false) xs → last_index_where (λ value. is_le (by (key value))) none (enumerate_from n xs) ≡ none
  none_passes none n [] h = refl
  none_passes none n (x ∷ xs) h = ap (λ b. last_index_where (λ value. is_le (by (key value))) (if b then n else none) (enumerate_from (n + 1) xs)) (All-head (λ value. is_le (by (key value)) ≡ false) x xs h) ∙ none_passes none (n + 1) xs (All-tail (λ value. is_le (by (key value)) ≡ false) x xs h)

  -- the last that isn't Greater stands just before the first that is
  pub sought_before : (none n : ℕ) (xs : List V) → IsMonotoneBy key by xs → index_sought key by none (enumerate_from n xs) ≡ just_before none n (leading key by xs)
  sought_before none n [] mono = refl
  sought_before none n (x ∷ xs) mono = go (is_gt (by (key x))) refl (sought_before n (n + 1) xs mono.1) where
    next : (k : ℕ) → just_before n (n + 1) k ≡ just_before none n (k + 1)
    next k = let e : k + 1 ≡ suc k = omega arith in rw e (each k) where
      each : (k : ℕ) → just_before n (n + 1) k ≡ n + k
      each zero = omega arith
      each (suc k) = omega arith

    go : (b : Bool) → is_gt (by (key x)) ≡ b → index_sought key by n (enumerate_from (n + 1) xs) ≡ just_before n (n + 1) (leading key by xs) → last_index_where (λ value. is_le (by (key value))) none (enumerate_from n (x ∷ xs)) ≡ just_before none n (if is_gt (by (key x)) then 0 else leading key by xs + 1)
    go true e rest = ap (λ b. last_index_where (λ value. is_le (by (key value))) (if b then n else none) (enumerate_from (n + 1) xs)) (greater_above (by (key x)) (by (key x)) e (omega arith))
        ∙ rw e
        (none_passes none (n + 1) xs (All-weaker (λ later. ordering_index (by (key x)) ≤ ordering_index (by (key later))) (λ value. is_le (by (key value)) ≡ false) (λ y h. greater_above (by (key x)) (by (key y)) e h) xs mono.0))
    go false e rest = ap (λ b. last_index_where (λ value. is_le (by (key value))) (if b then n else none) (enumerate_from (n + 1) xs)) (not_greater _ e) ∙ rest ∙ next (leading key by xs) ∙ rw e refl

-- a new key's place is behind those that aren't above it
below_new : (o : Ordering) → o ≢ Equal → is_gt o ≡ false → is_lt o ≡ true
below_new Less n e = refl
below_new Equal n e = absurd (n refl)
below_new Greater n e = cc

above_new : (o : Ordering) → is_gt o ≡ true → is_lt o ≡ false
above_new Greater e = refl
above_new Less e = cc
above_new Equal e = cc

module _ {K V : Type 0} (cmp : K → K → Ordering) (key : V → K) (new : V) where
  pub insert-leading : (xs : List V) → IsNewSetKey cmp key (key new) xs → insert xs (leading key (λ k. cmp k (key new)) xs) new ≡ with_value cmp key new xs
  insert-leading [] unlike = refl
  insert-leading (x ∷ xs) unlike = go (is_gt (cmp (key x) (key new))) refl (insert-leading xs (All-tail (λ value. cmp (key value) (key new) ≢ Equal) x xs unlike)) where
    go : (b : Bool) → is_gt (cmp (key x) (key new)) ≡ b → insert xs (leading key (λ k. cmp k (key new)) xs) new ≡ with_value cmp key new xs → insert (x ∷ xs) (if is_gt (cmp (key x) (key new)) then 0 else leading key (λ k. cmp k (key new)) xs + 1) new ≡ with_value cmp key new (x ∷ xs)
    go true e rest = rw (e, above_new _ e) refl
    go false e rest = rw (e, below_new _ (All-head (λ value. cmp (key value) (key new) ≢ Equal) x xs unlike) e, add-one) (ap (λ l. x ∷ l) rest)

  All-with_value : (P : V → Type 0) (xs : List V) → P new → All P xs → All P (with_value cmp key new xs)
  All-with_value P [] p all = All-cons P new [] p (All-nil P)
  All-with_value P (x ∷ xs) p all = go (is_lt (cmp (key x) (key new))) refl (All-with_value P xs p (All-tail P x xs all)) where
    go : (b : Bool) → is_lt (cmp (key x) (key new)) ≡ b → All P (with_value cmp key new xs) → All P (with_value cmp key new (x ∷ xs))
    go true e rest = rw e (All-cons P x (with_value cmp key new xs) (All-head P x xs all) rest)
    go false e rest = rw e (All-cons P new (x ∷ xs) p all)

  pub AreRising-with_value : IsTotalOrder cmp → (xs : List V) → AreRising cmp key xs → IsNewSetKey cmp key (key new) xs → AreRising cmp key (with_value cmp key new xs)
  AreRising-with_value total [] rising unlike = (All-nil (λ later. cmp (key new) (key later) ≡ Less), tt)
  AreRising-with_value total (x ∷ xs) rising unlike = go (cmp (key x) (key new)) refl (AreRising-with_value total xs rising.1 (All-tail (λ value. cmp (key value) (key new) ≢ Equal) x xs unlike)) where
    go : (o : Ordering) → cmp (key x) (key new) ≡ o → AreRising cmp key (with_value cmp key new xs) → AreRising cmp key (with_value cmp key new (x ∷ xs))
    go Less e rest = rw e (All-with_value (λ later. cmp (key x) (key later) ≡ Less) xs e rising.0, rest)
    go Equal e rest = absurd (All-head (λ value. cmp (key value) (key new) ≢ Equal) x xs unlike e)
    go Greater e rest =
        let below : cmp (key new) (key x) ≡ Less = total.antisymm (key new) (key x) ∙ ap ordering_reverse e in
        rw e (All-cons (λ later. cmp (key new) (key later) ≡ Less) x xs below (All-weaker (λ later. cmp (key x) (key later) ≡ Less) (λ later. cmp (key new) (key later) ≡ Less) (λ y h. total.trans (key new) (key x) (key y) below h) xs rising.0), rising)

-- some of the values rise where all do
module _ {K V : Type 0} (cmp : K → K → Ordering) (key : V → K) (test : ℕ × V → Bool) where
  All-filter_entries : (P : V → Type 0) (es : List (ℕ × V)) → All P (map (λ entry. entry.1) es) → All P (map (λ entry. entry.1) (filter test es))
  All-filter_entries P [] all = all
  All-filter_entries P (e ∷ es) all = go (test e) refl (All-filter_entries P es (All-tail P e.1 (map (λ entry. entry.1) es) all)) where
    go : (b : Bool) → test e ≡ b → All P (map (λ entry. entry.1) (filter test es)) → All P (map (λ entry. entry.1) (filter test (e ∷ es)))
    go true is rest = rw is (All-cons P e.1 (map (λ entry. entry.1) (filter test es)) (All-head P e.1 (map (λ entry. entry.1) es) all) rest)
    go false is rest = rw is rest

  AreRising-filter_entries : (es : List (ℕ × V)) → AreRising cmp key (map (λ entry. entry.1) es) → AreRising cmp key (map (λ entry. entry.1) (filter test es))
  AreRising-filter_entries [] rising = rising
  AreRising-filter_entries (e ∷ es) rising = go (test e) refl (AreRising-filter_entries es rising.1) where
    go : (b : Bool) → test e ≡ b → AreRising cmp key (map (λ entry. entry.1) (filter test es)) → AreRising cmp key (map (λ entry. entry.1) (filter test (e ∷ es)))
    go true is rest = rw is (All-filter_entries (λ later. cmp (key e.1) (key later) ≡ Less) es rising.0, rest)
    go false is rest = rw is rest

-- so they do after a deletion
pub AreRising-values_without : {K V : Type 0} (cmp : K → K → Ordering) (key : V → K) (index : ℕ) (set : IndexedSet V) → AreRising cmp key (values_of set) → AreRising cmp key (values_without index set)
AreRising-values_without cmp key index set rising = AreRising-filter_entries cmp key (λ entry. not (entry.0 == index)) set.entries rising

-- a search from the front at one value
pub leading-here : {K V : Type 0} (key : V → K) (by : K → Ordering) (rest : List V) (value : V) (later : List V) → rest ≡ value ∷ later → (o : Ordering) → o ≡ by (key value) → is_gt o ≡ true → leading key by rest ≡ 0
leading-here key by rest value later e o is greater = rw (e, ← is, greater) refl

pub leading-past : {K V : Type 0} (key : V → K) (by : K → Ordering) (rest : List V) (value : V) (later : List V) → rest ≡ value ∷ later → (o : Ordering) → o ≡ by (key value) → is_gt o ≡ false → leading key by rest ≡ leading key by later + 1
leading-past key by rest value later e o is greater = rw (e, ← is, greater) refl

-- positions name the values
pub IsNamed-positions : {V : Type 0} (insertions : ℕ) (xs : List V) → length xs ≤ insertions → insertions ≤ 2 ^ 31 - 1 → IsNamed 4294967295 (record { insertions = insertions; entries = enumerate_from 0 xs })
IsNamed-positions insertions xs few bounded = record {
  apart = λ j k a b e. omega (arith, index_at 0 xs j 0 (omega (arith, a, length-enumerate 0 xs)), index_at 0 xs k 0 (omega (arith, b, length-enumerate 0 xs)), e);
  named = λ j a e. absurd (let at = index_at 0 xs j 0 (omega (arith, a, length-enumerate 0 xs)) in omega (arith, at, e, a, length-enumerate 0 xs));
  few = omega (arith, length-enumerate 0 xs);
}

-- what is counted exactly is counted at most
pub CountsAtMost-min : (old new : Counts) (n m k : ℕ) → m ≡ k → CountsExactly old new (min n m) → CountsAtMost old new k
CountsAtMost-min old new n m k e counted = let c = counted.comparisons in record { never_falls = omega arith; bound = omega arith; pairs = counted.pairs }
