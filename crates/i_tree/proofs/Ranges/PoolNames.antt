-- The names of places in lists, and writes to a pool.
use Rattle.std.proofs.Common.{◌≡◌, ℕ, zero, suc, ◌+◌, ◌<◌, inl, inr, List, [], ◌∷◌, ◌++◌, length, map, filter, get_or, set, Bool, true, false, ◌==◌, if◌then◌else◌, refl, sym, ap, ◌∙◌, arith, IsPermutation, append_assoc, Some, slice_get}
use Rattle.std.proofs.lemmas.Bool.{eqb-true, eq-eqb, cases_lt}
use Rattle.std.proofs.lemmas.Bool.Decides.{nat_tests}
use Rattle.std.proofs.lemmas.List.Elements.{filter-append}
use Rattle.std.proofs.lemmas.List.Sorted.{IsPermutation-refl, IsPermutation-trans, IsPermutation-cons, IsPermutation-middle, IsPermutation-append_comm}
use Rattle.std.proofs.lemmas.Nat.Bits.{bit_at-zero}
use Rattle.std.specs.Int.{bit_at}
use Rattle.std.proofs.lemmas.List.Sums.{sum_by-cons}
use Rattle.std.specs.List.{sum_by}
use Rattle.std.specs.Option.{option_to_list}
use Rattle.i_tree.specs.Ranges.Pool.{mentions, picked}

-- if two numbers are equal or not
pub by_equal : {P : Type 0} → (i j : ℕ) → ((i == j) ≡ true → i ≡ j → P) → ((i == j) ≡ false → P) → P
by_equal {P} i j same other = by (i == j) refl where
  by : (b : Bool) → (i == j) ≡ b → P
  by true e = same e (eqb-true _ _ e)
  by false e = other e

pub mentions-append : (i : ℕ) (xs ys : List ℕ) → mentions i (xs ++ ys) ≡ mentions i xs + mentions i ys
unfolding mentions
mentions-append i [] ys = omega arith
mentions-append i (x ∷ xs) ys = rw (mentions-append i xs ys) (omega arith)

pub mentions-last : (i x : ℕ) (xs : List ℕ) → mentions i (xs ++ x ∷ []) ≡ mentions i xs + (if x == i then 1 else 0)
unfolding mentions
mentions-last i x xs = mentions-append i xs (x ∷ []) ∙ omega arith

pub mentions-none : (i : ℕ) → mentions i [] ≡ 0
unfolding mentions
mentions-none i = refl

pub mentions-same : (i x : ℕ) (xs : List ℕ) → (x == i) ≡ true → mentions i (x ∷ xs) ≡ 1 + mentions i xs
unfolding mentions
mentions-same i x xs e = rw e refl

pub mentions-other : (i x : ℕ) (xs : List ℕ) → (x == i) ≡ false → mentions i (x ∷ xs) ≡ mentions i xs
unfolding mentions
mentions-other i x xs e = rw e (omega arith)

pub mentions-filter : (p : ℕ → Bool) (i : ℕ) (xs : List ℕ) → mentions i (filter p xs) ≡ (if p i then mentions i xs else 0)
mentions-filter p i [] = by (p i) where
  by : (b : Bool) → mentions i [] ≡ (if b then mentions i [] else 0)
  by true = refl
  by false = mentions-none i
mentions-filter p i (x ∷ xs) = by_equal x i (λ e is. same (p i) refl (ap p is) e (mentions-filter p i xs)) (λ e. other (p x) refl e (mentions-filter p i xs)) where
  same : (b : Bool) → p i ≡ b → p x ≡ p i → (x == i) ≡ true → mentions i (filter p xs) ≡ (if p i then mentions i xs else 0) → mentions i (filter p (x ∷ xs)) ≡ (if p i then mentions i (x ∷ xs) else 0)
  same true on is e rest = let here : p x ≡ true = is ∙ on in let there : mentions i (filter p xs) ≡ mentions i xs = rw on at rest in rw (here, on) (mentions-same i x (filter p xs) e ∙ ap (λ n. 1 + n) there ∙ sym (mentions-same i x xs e))
  same false off is e rest = let here : p x ≡ false = is ∙ off in let there : mentions i (filter p xs) ≡ 0 = rw off at rest in rw (here, off) there

  other : (b : Bool) → p x ≡ b → (x == i) ≡ false → mentions i (filter p xs) ≡ (if p i then mentions i xs else 0) → mentions i (filter p (x ∷ xs)) ≡ (if p i then mentions i (x ∷ xs) else 0)
  other true on e rest = rw on (mentions-other i x (filter p xs) e ∙ rest ∙ ap (λ n. if p i then n else 0) (sym (mentions-other i x xs e)))
  other false off e rest = rw off (rest ∙ ap (λ n. if p i then n else 0) (sym (mentions-other i x xs e)))

pub mentions-here : (xs : List ℕ) (k d : ℕ) → k < length xs → 0 < mentions (get_or xs k d) xs
unfolding mentions
mentions-here [] k d h = absurd (omega arith)
mentions-here (x ∷ xs) zero d h = let e : (x == x) ≡ true = eq-eqb _ _ refl in rw e (omega arith)
mentions-here (x ∷ xs) (suc k) d h = omega (arith, mentions-here xs k d (omega arith))

module _ {X : Type 0} (p : X → Bool) where
  -- one that fails the test takes the place of one that fails it
  pub filter-set_none : (xs : List X) (i : ℕ) (y d : X) → p y ≡ false → p (get_or xs i d) ≡ false → filter p (set xs i y) ≡ filter p xs
  filter-set_none [] i y d a b = refl
  filter-set_none (x ∷ xs) zero y d a b = rw (a, b) refl
  filter-set_none (x ∷ xs) (suc i) y d a b = by (p x) refl (filter-set_none xs i y d a b) where
    by : (t : Bool) → p x ≡ t → filter p (set xs i y) ≡ filter p xs → filter p (set (x ∷ xs) (suc i) y) ≡ filter p (x ∷ xs)
    by true e rest = rw e (ap (λ l. x ∷ l) rest)
    by false e rest = rw e rest

  filter-cons : (x : X) (xs ys : List X) → IsPermutation (filter p xs) (filter p ys) → IsPermutation (filter p (x ∷ xs)) (filter p (x ∷ ys))
  filter-cons x xs ys h = by (p x) refl where
    by : (t : Bool) → p x ≡ t → IsPermutation (filter p (x ∷ xs)) (filter p (x ∷ ys))
    by true e = rw e (IsPermutation-cons x _ _ h)
    by false e = rw e h

  filter-swap : (x y : X) (xs : List X) → IsPermutation (filter p (y ∷ x ∷ xs)) (filter p (x ∷ y ∷ xs))
  filter-swap x y xs = by (p x) refl (p y) refl where
    by : (a : Bool) → p x ≡ a → (b : Bool) → p y ≡ b → IsPermutation (filter p (y ∷ x ∷ xs)) (filter p (x ∷ y ∷ xs))
    by true e true f = rw (e, f) (IsPermutation-middle (y ∷ []) x (filter p xs))
    by true e false f = rw (e, f) (IsPermutation-refl _)
    by false e b f = rw e (IsPermutation-refl _)

  -- any takes the place of one that fails the test
  pub filter-set_fails : (xs : List X) (i : ℕ) (y d : X) → i < length xs → p (get_or xs i d) ≡ false → IsPermutation (filter p (y ∷ xs)) (filter p (set xs i y))
  filter-set_fails [] i y d h b = absurd (omega arith)
  filter-set_fails (x ∷ xs) zero y d h b = without (p y) refl where
    without : (t : Bool) → p y ≡ t → IsPermutation (filter p (y ∷ x ∷ xs)) (filter p (y ∷ xs))
    without true e = rw (e, b) (IsPermutation-refl _)
    without false e = rw (e, b) (IsPermutation-refl _)
  filter-set_fails (x ∷ xs) (suc i) y d h b = IsPermutation-trans _ _ _ (filter-swap x y xs) (filter-cons x (y ∷ xs) (set xs i y) (filter-set_fails xs i y d (omega arith) b))

  pub filter-last : (xs : List X) (y : X) → IsPermutation (filter p (y ∷ xs)) (filter p (xs ++ y ∷ []))
  filter-last xs y = rw (filter-append p (y ∷ []) xs, filter-append p xs (y ∷ [])) (IsPermutation-append_comm (filter p (y ∷ [])) (filter p xs))

pub get_map_last : {X Y : Type 0} (f : X → Y) (xs : List X) (x : X) (n : ℕ) (d : Y) → get_or (map f (xs ++ x ∷ [])) n d ≡ (if n == length xs then f x else get_or (map f xs) n d)
get_map_last f [] x zero d = refl
get_map_last f [] x (suc n) d = let other : (suc n == 0) ≡ false = grind (arith, nat_tests) in rw other refl
get_map_last f (y ∷ ys) x zero d = let other : (0 == suc (length ys)) ≡ false = grind (arith, nat_tests) in rw other refl
get_map_last f (y ∷ ys) x (suc n) d = get_map_last f ys x n d ∙ by where
  by : (if n == length ys then f x else get_or (map f ys) n d) ≡ (if suc n == suc (length ys) then f x else get_or (map f ys) n d)
  by = let e : (n == length ys) ≡ (suc n == suc (length ys)) = grind (arith, nat_tests) in rw e refl

pub picked-append : {C : Type 0} (pool : List C) (xs ys : List ℕ) → picked pool (xs ++ ys) ≡ picked pool xs ++ picked pool ys
unfolding picked
picked-append pool [] ys = refl
picked-append pool (x ∷ xs) ys = rw (picked-append pool xs ys) (sym (append_assoc (option_to_list (slice_get pool x)) (picked pool xs) (picked pool ys)))

pub mentions-is_sum : (i : ℕ) (xs : List ℕ) → mentions i xs ≡ sum_by (λ x. if x == i then 1 else 0) xs
unfolding mentions
mentions-is_sum i [] = refl
mentions-is_sum i (x ∷ xs) = rw (mentions-is_sum i xs) (sym (sum_by-cons (λ y. if y == i then 1 else 0) x xs))

pub mentions-found : (i : ℕ) (xs : List ℕ) → 0 < mentions i xs → (k : ℕ) × (k < length xs) × (get_or xs k 0 ≡ i)
unfolding mentions
mentions-found i [] h = absurd (omega arith)
mentions-found i (x ∷ xs) h = by_equal x i
    (λ e is. (0, omega arith, is))
    (λ e. let later : 0 < 0 + mentions i xs = rw e at h in let found = mentions-found i xs (omega arith) in (suc found.0, omega (arith, found.1), found.2))

-- what is read at a place
pub read_at : {X Y : Type 0} (f : X → Y) (xs : List X) (i : ℕ) (x : X) (d : Y) → slice_get xs i ≡ Some x → get_or (map f xs) i d ≡ f x
read_at f [] i x d e = cc
read_at f (y ∷ ys) zero x d e = let same : y ≡ x = cc in ap f same
read_at f (y ∷ ys) (suc i) x d e = read_at f ys i x d e

-- a mask with a node isn't empty
pub some_bit : (mask node : ℕ) → bit_at mask node ≡ 1 → 0 < mask
some_bit mask node on = elim (cases_lt 0 mask) [ inl h ↦ h | inr h ↦ absurd (let empty : mask ≡ 0 = omega arith in let off : bit_at mask node ≡ 0 = ap (λ m. bit_at m node) empty ∙ bit_at-zero node in omega arith) ]

-- what is read at a place is one element, whatever stands for none
pub one_read : {X : Type 0} (xs : List X) (i : ℕ) (a b : X) → i < length xs → a ≡ get_or xs i a → b ≡ get_or xs i b → a ≡ b
one_read [] i a b h e f = absurd (omega arith)
one_read (x ∷ xs) zero a b h e f = cc
one_read (x ∷ xs) (suc i) a b h e f = one_read xs i a b (omega arith) e f
