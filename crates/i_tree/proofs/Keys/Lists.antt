-- A write to one node's list.
use Rattle.std.proofs.Common.{◌≡◌, ◌≢◌, ℕ, zero, suc, ◌+◌, ◌/◌, ◌^◌, ◌≤◌, ◌<◌, ◌⊎◌, inl, inr, List, [], ◌∷◌, length, map, get_or, set, bit_and, Result, Ok, Err, OnErr, is_ok, Bool, true, false, ◌&&◌, ◌==◌, nat_lt, if◌then◌else◌, refl, sym, ap, ◌∙◌, arith}
use Rattle.std.proofs.lemmas.Bool.{cases_order, eq-eqb, eqb-true, ltb-true}
use Rattle.std.proofs.lemmas.List.{get_or-map}
use Rattle.std.proofs.lemmas.Nat.Bits.{shr_and_one}
use Rattle.std.specs.Int.{bit_at}
use Rattle.std.proofs.lemmas.Bool.Decides.{nat_tests}
use Rattle.i_tree.specs.Ranges.Nodes.{has_node}

pub get_map_set : {X Y : Type 0} (f : X → Y) (xs : List X) (i : ℕ) (x : X) (n : ℕ) (d : Y) → i < length xs → get_or (map f (set xs i x)) n d ≡ (if n == i then f x else get_or (map f xs) n d)
get_map_set f [] i x n d h = absurd (omega arith)
get_map_set f (y ∷ ys) zero x zero d h = refl
get_map_set f (y ∷ ys) zero x (suc n) d h = let other : (suc n == 0) ≡ false = grind (arith, nat_tests) in rw other refl
get_map_set f (y ∷ ys) (suc i) x zero d h = let other : (0 == suc i) ≡ false = grind (arith, nat_tests) in rw other refl
get_map_set f (y ∷ ys) (suc i) x (suc n) d h = get_map_set f ys i x n d (omega arith) ∙ by where
  by : (if n == i then f x else get_or (map f ys) n d) ≡ (if suc n == suc i then f x else get_or (map f ys) n d)
  by = let e : (n == i) ≡ (suc n == suc i) = grind (arith, nat_tests) in rw e refl

-- a loop over the nodes of a mask: what it has made of each node's list, so far
pub so_far : {L : Type 0} → (ℕ → Bool) → (L → L) → (ℕ → L) → ℕ → ℕ → L
so_far has made old upto n = if nat_lt n upto && has n then made (old n) else old n

module _ {L : Type 0} (has : ℕ → Bool) (made : L → L) (old : ℕ → L) where
  pub so_far-none : (n : ℕ) → old n ≡ so_far has made old 0 n
  unfolding so_far
  so_far-none n = let no_more : nat_lt n 0 ≡ false = grind (arith, nat_tests) in rw no_more refl

  pub so_far-all : (upto n : ℕ) → 63 ≤ upto → n < 63 → so_far has made old upto n ≡ (if has n then made (old n) else old n)
  unfolding so_far
  so_far-all upto n far h = let inside : nat_lt n upto ≡ true = grind (arith, nat_tests) in rw inside refl

  module _ (i : ℕ) where
    so_far-here : so_far has made old i i ≡ old i
    unfolding so_far
    so_far-here = let past : nat_lt i i ≡ false = grind (arith, nat_tests) in rw past refl

    pub so_far-off : has i ≡ false → (n : ℕ) → so_far has made old i n ≡ so_far has made old (i + 1) n
    unfolding so_far
    so_far-off off n = by (cases_order n i) where
      by : (n ≡ i) ⊎ ((n < i) ⊎ (i < n)) → so_far has made old i n ≡ so_far has made old (i + 1) n
      by (inl e) = rw (e, off) (let past : nat_lt i i ≡ false = grind (arith, nat_tests) in let next : nat_lt i (i + 1) ≡ true = grind (arith, nat_tests) in rw (past, next) refl)
      by (inr o) = let same : nat_lt n i ≡ nat_lt n (i + 1) = grind (arith, nat_tests) in rw same refl

    step : has i ≡ true → (n : ℕ) (x : L) → x ≡ made (old i) → (if n == i then x else so_far has made old i n) ≡ so_far has made old (i + 1) n
    unfolding so_far
    step on n x is = by (cases_order n i) where
      by : (n ≡ i) ⊎ ((n < i) ⊎ (i < n)) → (if n == i then x else so_far has made old i n) ≡ so_far has made old (i + 1) n
      by (inl e) = let here : (i == i) ≡ true = grind (arith, nat_tests) in let next : nat_lt i (i + 1) ≡ true = grind (arith, nat_tests) in rw (e, here, next, on) is
      by (inr o) = let other : (n == i) ≡ false = grind (arith, nat_tests) in let same : nat_lt n i ≡ nat_lt n (i + 1) = grind (arith, nat_tests) in rw (other, same) refl

    -- a write to the node that the loop has come to
    pub so_far-on : {X : Type 0} (f : X → L) (none : L) (nodes : List X) (new default : X) → i < length nodes → has i ≡ true → ((n : ℕ) → get_or (map f nodes) n none ≡ so_far has made old i n) → f new ≡ made (f (get_or nodes i default)) → (n : ℕ) → get_or (map f (set nodes i new)) n none ≡ so_far has made old (i + 1) n
    so_far-on f none nodes new default within on before is n =
        get_map_set f nodes i new n none within ∙ ap (λ l. if n == i then f new else l) (before n)
        ∙ step on n (f new) (is ∙ ap made (sym (get_or-map f nodes i default none within) ∙ before i ∙ so_far-here))

-- room at the nodes of a mask, one node further
pub room_more : (has spare spare' : ℕ → Bool) (i : ℕ) (x : Bool) → ((n : ℕ) → n < i → has n ≡ true → spare n ≡ true) → ((n : ℕ) → spare' n ≡ (if n == i then x else spare n)) → x ≡ true → (n : ℕ) → n < i + 1 → has n ≡ true → spare' n ≡ true
room_more has spare spare' i x room writes here_too n h on = writes n ∙ by (cases_order n i) where
  by : (n ≡ i) ⊎ ((n < i) ⊎ (i < n)) → (if n == i then x else spare n) ≡ true
  by (inl e) = let here : (n == i) ≡ true = grind (arith, nat_tests) in rw here here_too
  by (inr (inl l)) = let other : (n == i) ≡ false = grind (arith, nat_tests) in rw other (room n l on)
  by (inr (inr g)) = absurd (omega arith)

pub room_past : (has spare : ℕ → Bool) (i : ℕ) → ((n : ℕ) → n < i → has n ≡ true → spare n ≡ true) → has i ≡ false → (n : ℕ) → n < i + 1 → has n ≡ true → spare n ≡ true
room_past has spare i room off n h on = elim (cases_order n i) [ inl e ↦ absurd (let on_here : has i ≡ true = rw (← e) on in cc) | inr o ↦ room n (elim o [ inl a ↦ a | inr b ↦ absurd (omega arith) ]) on ]

-- the code's test of a bit
pub on_bit : (mask node : ℕ) → bit_and (mask / 2 ^ node) 1 ≡ 1 → has_node mask node ≡ true
on_bit mask node e = eq-eqb _ _ (sym (shr_and_one mask node) ∙ e)

pub off_bit : (mask node : ℕ) → bit_and (mask / 2 ^ node) 1 ≢ 1 → has_node mask node ≡ false
off_bit mask node h = by (bit_at mask node == 1) refl where
  by : (b : Bool) → (bit_at mask node == 1) ≡ b → (bit_at mask node == 1) ≡ false
  by false e = e
  by true e = absurd (h (shr_and_one mask node ∙ eqb-true _ _ e))

-- room at the nodes that the loop has yet to come to
pub room_later : (has spare spare' : ℕ → Bool) (i : ℕ) (x : Bool) → ((n : ℕ) → i ≤ n → n < 63 → has n ≡ true → spare n ≡ true) → ((n : ℕ) → spare' n ≡ (if n == i then x else spare n)) → (n : ℕ) → i + 1 ≤ n → n < 63 → has n ≡ true → spare' n ≡ true
room_later has spare spare' i x room writes n later h on = writes n ∙ let other : (n == i) ≡ false = grind (arith, nat_tests) in rw other (room n (omega arith) h on)

-- with room a push isn't refused
pub is_ok-push : {T E : Type 0} (len capacity : ℕ) (r : Result T E) → OnErr r (capacity ≤ len) → nat_lt len capacity ≡ true → is_ok r ≡ true
is_ok-push len capacity (Ok x) full room = refl
is_ok-push len capacity (Err e) full room = absurd (let more : len < capacity = ltb-true _ _ room in omega arith)
