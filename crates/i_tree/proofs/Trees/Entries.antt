-- The entries that go by given names.
use Rattle.std.proofs.Common.{◌≡◌, ◌≢◌, ℕ, zero, suc, ◌+◌, ◌≤◌, ◌<◌, ◌⊎◌, inl, inr, List, [], ◌∷◌, ◌++◌, length, length-append, length-set, get_or, set, Option, Some, None, refl, sym, ap, ◌∙◌, arith}
use Rattle.std.specs.List.{slice_get, SwappedAt}
use Rattle.std.proofs.lemmas.Option.{slice_get-get_or, slice_get_past}
use Rattle.std.proofs.lemmas.Bool.{cases_lt}
use Rattle.i_tree.specs.declared.tree.pool.TheConstants.{NO_NODE}
use Rattle.i_tree.specs.Tree.Shape.{Tree, Context, plug, names, names_before, names_after, count}
use Rattle.i_tree.specs.Tree.Pool.{Nodes, places, IsAt, count_in, Stands}
use Rattle.i_tree.specs.Tree.Entries.{EntryTree, with_entry, before_others, entries_at, IsSwapped, IsEntered}
use Rattle.i_tree.proofs.Trees.Shapes.{one-same, names-plug}
use Rattle.i_tree.proofs.Trees.Pools.{count-past}
use Rattle.i_tree.proofs.Trees.Names.{count_in-append, count-names}

-- a list after a write, a push or a swap, read at a place
pub slice_get-set_same : {T : Type 0} (xs : List T) (i : ℕ) (y : T) → i < length xs → slice_get (set xs i y) i ≡ Some y
slice_get-set_same [] i y h = absurd (omega arith)
slice_get-set_same (x ∷ xs) zero y h = refl
slice_get-set_same (x ∷ xs) (suc i) y h = slice_get-set_same xs i y (omega arith)

pub slice_get-set_other : {T : Type 0} (xs : List T) (i j : ℕ) (y : T) → j ≢ i → slice_get (set xs i y) j ≡ slice_get xs j
slice_get-set_other [] i j y ne = refl
slice_get-set_other (x ∷ xs) zero zero y ne = absurd (ne refl)
slice_get-set_other (x ∷ xs) zero (suc j) y ne = refl
slice_get-set_other (x ∷ xs) (suc i) zero y ne = refl
slice_get-set_other (x ∷ xs) (suc i) (suc j) y ne = slice_get-set_other xs i j y (λ e. ne (ap suc e))

pub slice_get-push_end : {T : Type 0} (xs : List T) (y : T) → slice_get (xs ++ y ∷ []) (length xs) ≡ Some y
slice_get-push_end [] y = refl
slice_get-push_end (x ∷ xs) y = slice_get-push_end xs y

pub slice_get-push_other : {T : Type 0} (xs : List T) (j : ℕ) (y : T) → j ≢ length xs → slice_get (xs ++ y ∷ []) j ≡ slice_get xs j
slice_get-push_other [] zero y ne = absurd (ne refl)
slice_get-push_other [] (suc j) y ne = refl
slice_get-push_other (x ∷ xs) zero y ne = refl
slice_get-push_other (x ∷ xs) (suc j) y ne = slice_get-push_other xs j y (λ e. ne (ap suc e))

pub slice_get-moved : {T : Type 0} (xs ys : List T) (i j : ℕ) → length ys ≡ length xs → i < length ys → j < length xs → ((d : T) → get_or ys i d ≡ get_or xs j d) → slice_get ys i ≡ slice_get xs j
slice_get-moved [] ys i j e h k same = absurd (omega arith)
slice_get-moved (x ∷ xs) ys i j e h k same = slice_get-get_or ys i x h ∙ ap Some (same x) ∙ sym (slice_get-get_or (x ∷ xs) j x k)

-- a list after a swap, read at another place
pub slice_get-swap_other : {T : Type 0} (xs ys : List T) (i j k : ℕ) → length ys ≡ length xs → SwappedAt xs ys i j → k ≢ i → k ≢ j → slice_get ys k ≡ slice_get xs k
slice_get-swap_other xs ys i j k each swapped ne_i ne_j = by (cases_lt k (length xs)) where
  by : (k < length xs) ⊎ (length xs ≤ k) → slice_get ys k ≡ slice_get xs k
  by (inl l) = slice_get-moved xs ys k k each (omega arith) l (λ d. swapped.2 k d ne_i ne_j)
  by (inr g) = slice_get_past ys k (omega arith) ∙ sym (slice_get_past xs k g)

pub slice_get-there : {T : Type 0} (xs : List T) (i : ℕ) → i < length xs → (x : T) × (slice_get xs i ≡ Some x)
slice_get-there [] i h = absurd (omega arith)
slice_get-there (x ∷ xs) zero h = (x, refl)
slice_get-there (x ∷ xs) (suc i) h = slice_get-there xs i (omega arith)

-- a place that is not among the names
pub not-among : (ns : List ℕ) (i j : ℕ) → count_in i ns ≡ 0 → 0 < count_in j ns → j ≢ i
not-among ns i j none some e = let same : count_in j ns ≡ count_in i ns = ap (λ k. count_in k ns) e in absurd (omega arith)

pub entries_at-none : {T : Type 0} (xs : List T) → entries_at xs [] ≡ []
unfolding entries_at
entries_at-none xs = refl

pub entries_at-cons : {T : Type 0} (xs : List T) (i : ℕ) (x : T) (ns : List ℕ) → slice_get xs i ≡ Some x → entries_at xs (i ∷ ns) ≡ (i, x) ∷ entries_at xs ns
unfolding entries_at
entries_at-cons xs i x ns e = ap (λ o. before_others i o (entries_at xs ns)) e

before-append : {T : Type 0} (i : ℕ) (o : Option T) (a b : List (ℕ × T)) → before_others i o (a ++ b) ≡ before_others i o a ++ b
before-append i None a b = refl
before-append i (Some x) a b = refl

pub entries_at-append : {T : Type 0} (xs : List T) (a b : List ℕ) → entries_at xs (a ++ b) ≡ entries_at xs a ++ entries_at xs b
unfolding entries_at
entries_at-append xs [] b = refl
entries_at-append xs (i ∷ a) b = ap (before_others i (slice_get xs i)) (entries_at-append xs a b) ∙ before-append i (slice_get xs i) (entries_at xs a) (entries_at xs b)

-- a node's entries, and those round it
pub entries_at-round : {T : Type 0} (xs : List T) (a : List ℕ) (i : ℕ) (x : T) (b : List ℕ) → slice_get xs i ≡ Some x → entries_at xs (a ++ (i ∷ b)) ≡ entries_at xs a ++ ((i, x) ∷ entries_at xs b)
entries_at-round xs a i x b e = entries_at-append xs a (i ∷ b) ∙ ap (λ es. entries_at xs a ++ es) (entries_at-cons xs i x b e)

pub length-entries_at : {T : Type 0} (xs : List T) (ns : List ℕ) → ((i : ℕ) → 0 < count_in i ns → i < length xs) → length (entries_at xs ns) ≡ length ns
unfolding entries_at
length-entries_at xs [] within = refl
length-entries_at xs (i ∷ ns) within =
    let (x, e) = slice_get-there xs i (within i (omega (arith, one-same i))) in
    ap (λ o. length (before_others i o (entries_at xs ns))) e ∙ ap suc (length-entries_at xs ns (λ j h. within j (omega arith)))

-- entries change only where they are written
pub entries_at-same : {T : Type 0} (xs ys : List T) (ns : List ℕ) → ((i : ℕ) → 0 < count_in i ns → slice_get ys i ≡ slice_get xs i) → entries_at ys ns ≡ entries_at xs ns
unfolding entries_at
entries_at-same xs ys [] same = refl
entries_at-same xs ys (i ∷ ns) same =
    let here : slice_get ys i ≡ slice_get xs i = same i (omega (arith, one-same i)) in
    let rest = entries_at-same xs ys ns (λ j h. same j (omega arith)) in
    cc

pub entries_at-set : {T : Type 0} (xs : List T) (i : ℕ) (y : T) (ns : List ℕ) → count_in i ns ≡ 0 → entries_at (set xs i y) ns ≡ entries_at xs ns
entries_at-set xs i y ns none = entries_at-same xs (set xs i y) ns (λ j h. slice_get-set_other xs i j y (not-among ns i j none h))

-- the names of a tree in a pool are places, each once
pub count-within : (pool : Nodes) (p : ℕ) (t : Tree) (i : ℕ) → IsAt pool p t → 0 < count i t → i < places pool
count-within pool p t i at h = by (cases_lt i (places pool)) where
  by : (i < places pool) ⊎ (places pool ≤ i) → i < places pool
  by (inl l) = l
  by (inr g) = let none = count-past pool p t i at g in absurd (omega arith)

pub names-within-places : (pool : Nodes) (sp : List ℕ) (t : Tree) → Stands pool sp t → (i : ℕ) → 0 < count_in i (names t) → i < places pool
names-within-places pool sp t stands i h = count-within pool NO_NODE t i stands.at (let e = count-names i t in omega arith)

pub names-once : (pool : Nodes) (sp : List ℕ) (t : Tree) → Stands pool sp t → (i : ℕ) → count_in i (names t) + count_in i sp ≤ 1
names-once pool sp t stands i = let e = count-names i t in let o = stands.once i in omega arith

-- how often a name stands among those before, at and after a place
pub count_in-round : (pool : Nodes) (sp : List ℕ) (c : Context) (t : Tree) → Stands pool sp (plug c t) → (i : ℕ) → count_in i (names_before c) + (count_in i (names t) + count_in i (names_after c)) + count_in i sp ≤ 1
count_in-round pool sp c t stands i =
    let o = names-once pool sp (plug c t) stands i in
    let e = ap (count_in i) (names-plug c t) in
    let a = count_in-append i (names_before c) (names t ++ names_after c) in
    let b = count_in-append i (names t) (names_after c) in
    omega arith

pub round-within : (pool : Nodes) (sp : List ℕ) (c : Context) (t : Tree) → Stands pool sp (plug c t) → (i : ℕ) → 0 < count_in i (names_before c) + (count_in i (names t) + count_in i (names_after c)) → i < places pool
round-within pool sp c t stands i h =
    let e = ap (count_in i) (names-plug c t) in
    let a = count_in-append i (names_before c) (names t ++ names_after c) in
    let b = count_in-append i (names t) (names_after c) in
    names-within-places pool sp (plug c t) stands i (omega arith)

pub entries_at-swapped : {T : Type 0} (xs ys : List T) (i j : ℕ) → IsSwapped xs ys i j → (ns : List ℕ) → count_in i ns ≡ 0 → count_in j ns ≡ 0 → entries_at ys ns ≡ entries_at xs ns
entries_at-swapped xs ys i j swapped ns no_i no_j = entries_at-same xs ys ns (λ k h. swapped.elsewhere k (not-among ns i k no_i h) (not-among ns j k no_j h))

-- an entry was written at a place, or came after the others
pub IsEntered-written : {T : Type 0} (old new : EntryTree T) (i : ℕ) (x : T) → length old.entries ≡ places old.pool → places new.pool ≡ places old.pool → new.entries ≡ old.entries → i < places old.pool → IsEntered old (with_entry new i x) i x
IsEntered-written old new i x each many same h =
    let l = ap length same in
    record {
      each_place = length-set new.entries i x ∙ l ∙ each ∙ sym many;
      there = slice_get-set_same new.entries i x (omega arith);
      elsewhere = λ j ne. slice_get-set_other new.entries i j x ne ∙ ap (λ xs. slice_get xs j) same;
    }

pub IsEntered-pushed : {T : Type 0} (old new : EntryTree T) (x : T) → length old.entries ≡ places old.pool → places new.pool ≡ places old.pool + 1 → new.entries ≡ old.entries ++ x ∷ [] → IsEntered old new (places old.pool) x
IsEntered-pushed old new x each many pushed = record {
  each_place = ap length pushed ∙ length-append old.entries (x ∷ []) ∙ ap (λ n. n + 1) each ∙ sym many;
  there = ap (λ xs. slice_get xs (places old.pool)) pushed ∙ ap (λ n. slice_get (old.entries ++ x ∷ []) n) (sym each) ∙ slice_get-push_end old.entries x;
  elsewhere = λ j ne. ap (λ xs. slice_get xs j) pushed ∙ slice_get-push_other old.entries j x (λ e. ne (e ∙ each));
}

pub IsEntered-kept : {T : Type 0} (old new last : EntryTree T) (i : ℕ) (x : T) → IsEntered old new i x → places last.pool ≡ places new.pool → last.entries ≡ new.entries → IsEntered old last i x
IsEntered-kept old new last i x entered many same = record {
  each_place = ap length same ∙ entered.each_place ∙ sym many;
  there = ap (λ xs. slice_get xs i) same ∙ entered.there;
  elsewhere = λ j ne. ap (λ xs. slice_get xs j) same ∙ entered.elsewhere j ne;
}

pub IsSwapped-itself : {T : Type 0} (xs : List T) (i j : ℕ) → i ≡ j → IsSwapped xs xs i j
IsSwapped-itself xs i j e = record { same_length = refl; first = ap (slice_get xs) e; second = ap (slice_get xs) (sym e); elsewhere = λ k ne_i ne_j. refl }
