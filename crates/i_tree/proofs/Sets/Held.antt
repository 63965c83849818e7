-- The values that entries hold, and an indexed set by parts of its list.
use Rattle.std.proofs.Common.{◌≡◌, ◌≢◌, ℕ, zero, suc, ◌≤◌, ◌<◌, List, [], ◌∷◌, ◌++◌, length, get_or, map, filter, Bool, true, false, not, ◌==◌, nat_eq, if◌then◌else◌, Option, Some, None, All, Contains, IsSome, refl, sym, ap, ◌∙◌, arith}
use Rattle.std.proofs.lemmas.Bool.{eqb-true, false≢true}
use Rattle.std.proofs.lemmas.Bool.Decides.{nat_tests}
use Rattle.std.proofs.lemmas.List.Elements.{All-head, All-tail}
use Rattle.std.proofs.lemmas.List.{get_or_default}
use Rattle.std.specs.Prelude.{slice_index}
use Rattle.std.specs.Ordering.{is_lt}
use Rattle.std.specs.declared.cmp.Ordering.{Ordering}
use Rattle.i_tree.specs.Tree.Shape.{one}
use Rattle.i_tree.specs.Tree.Pool.{count_in}
use Rattle.i_tree.specs.Tree.Entries.{last_named}
use Rattle.i_tree.specs.Tree.Order.{last_of}
use Rattle.i_tree.specs.IndexedSet.{index_just_before, last_index_where, with_value}
use Rattle.i_tree.specs.Tree.SetView.{held}
use Rattle.i_tree.proofs.Trees.Shapes.{one-same, one-other}

pub last_of-names : {T : Type 0} (none : ℕ) (xs : List (ℕ × T)) → last_of none (map (λ entry. entry.0) xs) ≡ last_named none xs
last_of-names none [] = refl
last_of-names none (x ∷ xs) = last_of-names x.0 xs

-- how often a name stands in a list, and where
pub count_in-there : (ns : List ℕ) (k i : ℕ) → k < length ns → get_or ns k i ≡ i → 0 < count_in i ns
count_in-there [] k i h e = absurd (omega arith)
count_in-there (n ∷ ns) zero i h e = let x : one n i ≡ 1 = rw e (one-same i) in omega arith
count_in-there (n ∷ ns) (suc k) i h e = let rest = count_in-there ns k i (omega arith) e in omega arith

one-differs : (n i : ℕ) → nat_eq n i ≡ false → one n i ≡ 0
unfolding one
one-differs n i e = rw e refl

pub count_in-Contains : (ns : List ℕ) (i : ℕ) → 0 < count_in i ns → Contains ns i
count_in-Contains [] i h = absurd (omega arith)
count_in-Contains (n ∷ ns) i h = by (nat_eq n i) refl (λ more. count_in-Contains ns i more) where
  by : (b : Bool) → nat_eq n i ≡ b → (0 < count_in i ns → Contains ns i) → Contains (n ∷ ns) i
  by true e rest = (0, omega arith, eqb-true n i e)
  by false e rest = let differs = one-differs n i e in let there = rest (omega arith) in (suc there.0, omega (arith, there.1), there.2)

-- names that stand once each are at one place each
pub once-apart : (ns : List ℕ) → ((i : ℕ) → count_in i ns ≤ 1) → (j k : ℕ) → j < length ns → k < length ns → slice_index ns j ≡ slice_index ns k → j ≡ k
once-apart [] once j k a b e = absurd (omega arith)
once-apart (n ∷ ns) once zero zero a b e = refl
once-apart (n ∷ ns) once zero (suc k) a b e = let x = count_in-there ns k n (omega arith) (get_or_default ns k n 0 (omega arith) ∙ sym e) in let o = once n in let s = one-same n in absurd (omega arith)
once-apart (n ∷ ns) once (suc j) zero a b e = let x = count_in-there ns j n (omega arith) (get_or_default ns j n 0 (omega arith) ∙ e) in let o = once n in let s = one-same n in absurd (omega arith)
once-apart (n ∷ ns) once (suc j) (suc k) a b e = ap suc (once-apart ns (λ i. let o = once i in omega arith) j k (omega arith) (omega arith) e)

-- the values that entries hold
module _ {V : Type 0} where
  pub held-append : (a b : List (ℕ × Option V)) → held (a ++ b) ≡ held a ++ held b
  held-append [] b = refl
  held-append ((i, None) ∷ a) b = held-append a b
  held-append ((i, Some v) ∷ a) b = ap (λ (l : List (ℕ × V)). (i, v) ∷ l) (held-append a b)

  pub held-names : (es : List (ℕ × Option V)) → All (λ entry. IsSome entry.1) es → map (λ entry. entry.0) (held es) ≡ map (λ entry. entry.0) es
  held-names [] all = refl
  held-names ((i, None) ∷ es) all = absurd (false≢true (All-head (λ entry. IsSome entry.1) (i, None) es all))
  held-names ((i, Some v) ∷ es) all = ap (λ l. i ∷ l) (held-names es (All-tail (λ entry. IsSome entry.1) (i, Some v) es all))

  pub held-length : (es : List (ℕ × Option V)) → All (λ entry. IsSome entry.1) es → length (held es) ≡ length es
  held-length [] all = refl
  held-length ((i, None) ∷ es) all = absurd (false≢true (All-head (λ entry. IsSome entry.1) (i, None) es all))
  held-length ((i, Some v) ∷ es) all = ap suc (held-length es (All-tail (λ entry. IsSome entry.1) (i, Some v) es all))

  pub held-last : (none : ℕ) (es : List (ℕ × Option V)) → All (λ entry. IsSome entry.1) es → last_named none (held es) ≡ last_named none es
  held-last none [] all = refl
  held-last none ((i, None) ∷ es) all = absurd (false≢true (All-head (λ entry. IsSome entry.1) (i, None) es all))
  held-last none ((i, Some v) ∷ es) all = held-last i es (All-tail (λ entry. IsSome entry.1) (i, Some v) es all)

  -- a value written over
  pub held-written : (i : ℕ) (v : V) (es : List (ℕ × Option V)) → All (λ entry. IsSome entry.1) es → held (map (λ entry. if entry.0 == i then (i, Some v) else entry) es) ≡ map (λ entry. if entry.0 == i then (i, v) else entry) (held es)
  held-written i v [] all = refl
  held-written i v ((j, None) ∷ es) all = absurd (false≢true (All-head (λ entry. IsSome entry.1) (j, None) es all))
  held-written i v ((j, Some w) ∷ es) all = by (j == i) refl (held-written i v es (All-tail (λ entry. IsSome entry.1) (j, Some w) es all)) where
    by : (b : Bool) → (j == i) ≡ b → held (map (λ entry. if entry.0 == i then (i, Some v) else entry) es) ≡ map (λ entry. if entry.0 == i then (i, v) else entry) (held es)
        → held ((if j == i then (i, Some v) else (j, Some w)) ∷ map (λ entry. if entry.0 == i then (i, Some v) else entry) es) ≡ (if j == i then (i, v) else (j, w)) ∷ map (λ entry. if entry.0 == i then (i, v) else entry) (held es)
    by true e rest = rw e (ap (λ (l : List (ℕ × V)). (i, v) ∷ l) rest)
    by false e rest = rw e (ap (λ (l : List (ℕ × V)). (j, w) ∷ l) rest)

  -- a value taken out
  none-named : (i : ℕ) (es : List (ℕ × V)) → count_in i (map (λ entry. entry.0) es) ≡ 0 → filter (λ entry. not (entry.0 == i)) es ≡ es
  none-named i [] h = refl
  none-named i (x ∷ es) h =
      let ne : x.0 ≢ i = one-other x.0 i (omega arith) in
      let there : (x.0 == i) ≡ false = grind (arith, nat_tests) in
      rw there (ap (λ (l : List (ℕ × V)). x ∷ l) (none-named i es (omega arith)))

  pub without-parts : (a : List (ℕ × V)) (i : ℕ) (v : V) (b : List (ℕ × V)) → count_in i (map (λ entry. entry.0) a) ≡ 0 → count_in i (map (λ entry. entry.0) b) ≡ 0 → filter (λ entry. not (entry.0 == i)) (a ++ ((i, v) ∷ b)) ≡ a ++ b
  without-parts [] i v b f h = let here : (i == i) ≡ true = grind (arith, nat_tests) in rw here (none-named i b h)
  without-parts (x ∷ a) i v b f h =
      let ne : x.0 ≢ i = one-other x.0 i (omega arith) in
      let there : (x.0 == i) ≡ false = grind (arith, nat_tests) in
      rw there (ap (λ (l : List (ℕ × V)). x ∷ l) (without-parts a i v b (omega arith) h))

  -- the index before one, by the entries on its left
  pub index_before-parts : (none : ℕ) (a : List (ℕ × V)) (i : ℕ) (v : V) (b : List (ℕ × V)) → count_in i (map (λ entry. entry.0) a) ≡ 0 → index_just_before none i (a ++ ((i, v) ∷ b)) ≡ last_named none a
  index_before-parts none [] i v b h = let here : (i == i) ≡ true = grind (arith, nat_tests) in rw here refl
  index_before-parts none (x ∷ a) i v b h =
      let ne : x.0 ≢ i = one-other x.0 i (omega arith) in
      let there : (x.0 == i) ≡ false = grind (arith, nat_tests) in
      rw there (index_before-parts x.0 a i v b (omega arith))

  -- the last that passes, where those that do stand before those that don't
  pub none_passes : (test : V → Bool) (none : ℕ) (b : List (ℕ × V)) → All (λ entry. test entry.1 ≡ false) b → last_index_where test none b ≡ none
  none_passes test none [] all = refl
  none_passes test none (x ∷ b) all =
      ap (λ t. last_index_where test (if t then x.0 else none) b) (All-head (λ entry. test entry.1 ≡ false) x b all)
      ∙ none_passes test none b (All-tail (λ entry. test entry.1 ≡ false) x b all)

  pub last_passes : (test : V → Bool) (none : ℕ) (a b : List (ℕ × V)) → All (λ entry. test entry.1 ≡ true) a → All (λ entry. test entry.1 ≡ false) b → last_index_where test none (a ++ b) ≡ last_named none a
  last_passes test none [] b below above = none_passes test none b above
  last_passes test none (x ∷ a) b below above =
      ap (λ t. last_index_where test (if t then x.0 else none) (a ++ b)) (All-head (λ entry. test entry.1 ≡ true) x a below)
      ∙ last_passes test x.0 a b (All-tail (λ entry. test entry.1 ≡ true) x a below) above

-- a new value goes between those below it and those above
module _ {K V : Type 0} (cmp : K → K → Ordering) (key : V → K) (new : V) where
  first-above : (b : List V) → All (λ value. is_lt (cmp (key value) (key new)) ≡ false) b → with_value cmp key new b ≡ new ∷ b
  first-above [] all = refl
  first-above (x ∷ b) all = rw (All-head (λ value. is_lt (cmp (key value) (key new)) ≡ false) x b all) refl

  pub with_value-parts : (a b : List V) → All (λ value. is_lt (cmp (key value) (key new)) ≡ true) a → All (λ value. is_lt (cmp (key value) (key new)) ≡ false) b → with_value cmp key new (a ++ b) ≡ a ++ (new ∷ b)
  with_value-parts [] b below above = first-above b above
  with_value-parts (x ∷ a) b below above =
      rw (All-head (λ value. is_lt (cmp (key value) (key new)) ≡ true) x a below)
      (ap (λ (l : List V). x ∷ l) (with_value-parts a b (All-tail (λ value. is_lt (cmp (key value) (key new)) ≡ true) x a below) above))
