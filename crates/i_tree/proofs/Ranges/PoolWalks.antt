-- A walk over the nodes of a bucket tree picks each place whose mask shares a node with the query's once.
use Rattle.std.proofs.Common.{◌≡◌, ◌≢◌, ℕ, zero, suc, ◌+◌, ◌^◌, ◌≤◌, ◌<◌, inl, inr, List, [], ◌∷◌, ◌++◌, length, filter, bit_and, Bool, true, false, not, ◌==◌, nat_lt, if◌then◌else◌, refl, sym, ap, ◌∙◌, append_assoc, arith, Some, slice_get, IsPermutation}
use Rattle.std.proofs.lemmas.Bool.{cases_lt, eq-eqb, ltb-true}
use Rattle.std.proofs.lemmas.List.Sorted.{IsPermutation-refl, IsPermutation-sym, IsPermutation-trans, IsPermutation-append_left, IsPermutation-append_right, IsPermutation-append_comm}
use Rattle.std.proofs.lemmas.Nat.{and_le_r}
use Rattle.std.specs.Int.{bit_at}
use Rattle.std.specs.Option.{option_to_list}
use Rattle.i_tree.specs.Ranges.Masks.{is_met, intersect_mask}
use Rattle.i_tree.specs.Ranges.Nodes.{least_node, gather, is_taken}
use Rattle.i_tree.specs.Ranges.Pool.{mentions, named_at, picked, AreNamed}
use Rattle.i_tree.proofs.Ranges.Masks.{mask_below_lt}
use Rattle.i_tree.proofs.Ranges.Shares.{bits_at_lowest, test_from_bit, least_node-none}
use Rattle.i_tree.proofs.Ranges.PoolNames.{by_equal, read_at, mentions-append, mentions-filter, mentions-none, mentions-same, mentions-other}
use Rattle.i_tree.proofs.Ranges.Purges.{named_within}

-- a list without the first name of a place
without : ℕ → List ℕ → List ℕ
without x [] = []
without x (y ∷ ys) = if y == x then ys else y ∷ without x ys

mentions-without : (x p : ℕ) (ys : List ℕ) → 0 < mentions x ys → mentions p (without x ys) + (if x == p then 1 else 0) ≡ mentions p ys
unfolding mentions without
mentions-without x p [] h = absurd (omega arith)
mentions-without x p (y ∷ ys) h = by_equal y x
    (λ e is. rw (e, is) (omega arith))
    (λ e. let later : 0 < 0 + mentions x ys = rw e at h in rw e (omega (arith, mentions-without x p ys (omega arith))))

module _ {C : Type 0} (pool : List C) where
  past : (xs ys zs : List C) → IsPermutation (xs ++ (ys ++ zs)) (ys ++ (xs ++ zs))
  past xs ys zs = rw (← append_assoc xs ys zs, ← append_assoc ys xs zs) (IsPermutation-append_left zs (xs ++ ys) (ys ++ xs) (IsPermutation-append_comm xs ys))

  picked-without : (x : ℕ) (ys : List ℕ) → 0 < mentions x ys → IsPermutation (picked pool ys) (option_to_list (slice_get pool x) ++ picked pool (without x ys))
  unfolding picked without mentions
  picked-without x [] h = absurd (omega arith)
  picked-without x (y ∷ ys) h = by_equal y x
      (λ e is. rw (e, is) (IsPermutation-refl _))
      (λ e. let later : 0 < 0 + mentions x ys = rw e at h in
      rw e (IsPermutation-trans _ _ _
      (IsPermutation-append_right (option_to_list (slice_get pool y)) (picked pool ys) (option_to_list (slice_get pool x) ++ picked pool (without x ys)) (picked-without x ys (omega arith)))
      (past (option_to_list (slice_get pool y)) (option_to_list (slice_get pool x)) (picked pool (without x ys)))))

  none_named : (ys : List ℕ) → ((p : ℕ) → 0 ≡ mentions p ys) → picked pool ys ≡ []
  unfolding picked
  none_named [] h = refl
  none_named (y ∷ ys) h = absurd (let one = mentions-same y y ys (eq-eqb _ _ refl) in let none = h y in omega arith)

  -- lists that name the same places as often pick the same
  pub picks_permute : (xs ys : List ℕ) → ((p : ℕ) → mentions p xs ≡ mentions p ys) → IsPermutation (picked pool xs) (picked pool ys)
  unfolding picked mentions
  picks_permute [] ys h = rw (none_named ys h) (IsPermutation-refl [])
  picks_permute (x ∷ xs) ys h =
      let one = mentions-same x x xs (eq-eqb _ _ refl) in
      let all = h x in
      let some : 0 < mentions x ys = omega arith in
      IsPermutation-trans _ _ _
      (IsPermutation-append_right (option_to_list (slice_get pool x)) (picked pool xs) (picked pool (without x ys)) (picks_permute xs (without x ys) (λ p. let less = mentions-without x p ys some in let same = h p in omega arith)))
      (IsPermutation-sym _ _ (picked-without x ys some))

-- so many places from one on
places : ℕ → ℕ → List ℕ
places from zero = []
places from (suc n) = from ∷ places (from + 1) n

places-before : (p from n : ℕ) → p < from → mentions p (places from n) ≡ 0
unfolding mentions places
places-before p from zero h = refl
places-before p from (suc n) h = mentions-other p from (places (from + 1) n) (by_equal from p (λ e is. absurd (omega arith)) (λ e. e)) ∙ places-before p (from + 1) n (omega arith)

places-here : (p from n : ℕ) → from ≤ p → p < from + n → mentions p (places from n) ≡ 1
unfolding mentions places
places-here p from zero a b = absurd (omega arith)
places-here p from (suc n) a b = by_equal from p
    (λ e is. mentions-same p from (places (from + 1) n) e ∙ ap (λ m. 1 + m) (places-before p (from + 1) n (omega arith)))
    (λ e. mentions-other p from (places (from + 1) n) e ∙ places-here p (from + 1) n (after e) (omega arith)) where
      after : (from == p) ≡ false → from + 1 ≤ p
      after e = elim (cases_lt from p) [ inl l ↦ omega arith | inr g ↦ absurd (let f : (from == p) ≡ true = eq-eqb _ _ (omega arith) in cc) ]

-- the places of a list that pass a test, and what passes it there
picked-places : {C : Type 0} (pool rest : List C) (q : ℕ → Bool) (t : C → Bool) (from : ℕ) → ((j : ℕ) → slice_get pool (from + j) ≡ slice_get rest j) → ((j : ℕ) (c : C) → slice_get rest j ≡ Some c → q (from + j) ≡ t c) → picked pool (filter q (places from (length rest))) ≡ filter t rest
unfolding picked places
picked-places pool [] q t from reads tests = refl
picked-places {C} pool (c ∷ cs) q t from reads tests = by (t c) refl (picked-places pool cs q t (from + 1) (λ j. ap (slice_get pool) (next j) ∙ reads (suc j)) (λ j d e. ap q (next j) ∙ tests (suc j) d e)) where
  next : (j : ℕ) → from + 1 + j ≡ from + suc j
  next j = omega arith

  now : from + 0 ≡ from
  now = omega arith

  read : slice_get pool from ≡ Some c
  read = ap (slice_get pool) (sym now) ∙ reads 0

  by : (b : Bool) → t c ≡ b → picked pool (filter q (places (from + 1) (length cs))) ≡ filter t cs → picked pool (filter q (from ∷ places (from + 1) (length cs))) ≡ filter t (c ∷ cs)
  by true e rest = let on : q from ≡ true = ap q (sym now) ∙ tests 0 c refl ∙ e in rw (on, e, read, rest) refl
  by false e rest = let off : q from ≡ false = ap q (sym now) ∙ tests 0 c refl ∙ e in rw (off, e) rest

-- what nodes gather of one place
module _ (f : ℕ → ℕ) (at : ℕ → List ℕ) (p : ℕ) where
  gathered-none : (from count : ℕ) → ((n : ℕ) → from ≤ n → n < from + count → f p ≢ n) → mentions p (gather (λ n c. f c == n) at from count) ≡ 0
  unfolding gather
  gathered-none from zero h = mentions-none p
  gathered-none from (suc count) h =
      mentions-append p (filter (λ c. f c == from) (at from)) (gather (λ n c. f c == n) at (from + 1) count)
      ∙ rw (mentions-filter (λ c. f c == from) p (at from), gathered-none (from + 1) count (λ n a b. h n (omega arith) (omega arith))) (by_equal (f p) from (λ e is. absurd (h from (omega arith) (omega arith) is)) (λ e. rw e refl))

  gathered-one : (from count : ℕ) → from ≤ f p → f p < from + count → mentions p (gather (λ n c. f c == n) at from count) ≡ mentions p (at (f p))
  unfolding gather
  gathered-one from zero a b = absurd (omega arith)
  gathered-one from (suc count) a b = mentions-append p (filter (λ c. f c == from) (at from)) (gather (λ n c. f c == n) at (from + 1) count) ∙ by_equal (f p) from
      (λ e is. rw (mentions-filter (λ c. f c == from) p (at from), e, gathered-none (from + 1) count (λ n c d. λ same. omega arith), is) (omega arith))
      (λ e. rw (mentions-filter (λ c. f c == from) p (at from), e) (omega (arith, gathered-one (from + 1) count (after e) (omega arith)))) where
        after : (f p == from) ≡ false → from + 1 ≤ f p
        after e = elim (cases_lt from (f p)) [ inl l ↦ omega arith | inr g ↦ absurd (let t : (f p == from) ≡ true = eq-eqb _ _ (omega arith) in cc) ]

module _ {C : Type 0} (named : C → ℕ) (pool : List C) (at : ℕ → List ℕ) (names : AreNamed named pool at) (low high query : ℕ) (query_is : query ≡ intersect_mask low high) where
  -- a place that shares a node with the query is named at the least such node, one of the 63
  pub shared_node : (p : ℕ) → bit_and (named_at named pool p) query ≢ 0 → (least_node (bit_and (named_at named pool p) query) < 63) × ((bit_at (named_at named pool p) (least_node (bit_and (named_at named pool p) query)) ≡ 1) × (bit_at query (least_node (bit_and (named_at named pool p) query)) ≡ 1))
  shared_node p some =
      let small : query < 2 ^ 63 = rw query_is (mask_below_lt (is_met low high) 63) in
      let bits = bits_at_lowest (named_at named pool p) query (omega (arith, and_le_r (named_at named pool p) query)) some in
      let on : bit_at (intersect_mask low high) (least_node (bit_and (named_at named pool p) query)) ≡ 1 = ap (λ m. bit_at m (least_node (bit_and (named_at named pool p) query))) (sym query_is) ∙ bits.1 in
      (inside _ (test_from_bit (is_met low high) _ on).0, (bits.0, bits.1)) where
        inside : (n : ℕ) → nat_lt n 63 ≡ true → n < 63
        inside n e = ltb-true _ _ e

  walk_mentions : (p : ℕ) → mentions p (gather (is_taken (named_at named pool) query) at 0 63) ≡ mentions p (filter (λ p. not (bit_and (named_at named pool p) query == 0)) (places 0 (length pool)))
  walk_mentions p = by_equal (bit_and (named_at named pool p) query) 0
      (λ e is. gathered-none (λ c. least_node (bit_and (named_at named pool c) query)) at p 0 63 (λ n a b same. let f = least_node-none _ is in omega arith)
      ∙ sym (mentions-filter (λ p. not (bit_and (named_at named pool p) query == 0)) p (places 0 (length pool)) ∙ rw e refl))
      (λ e.
      let node = shared_node p (λ z. let t : (bit_and (named_at named pool p) query == 0) ≡ true = eq-eqb _ _ z in cc) in
      gathered-one (λ c. least_node (bit_and (named_at named pool c) query)) at p 0 63 (omega arith) (omega (arith, node.0))
      ∙ names.names p _ node.0 ∙ node.1.0
      ∙ sym (mentions-filter (λ p. not (bit_and (named_at named pool p) query == 0)) p (places 0 (length pool)) ∙ rw e (places-here p 0 (length pool) (omega arith) (omega (arith, named_within named pool p _ node.1.0)))))

  pub walk_picks : IsPermutation (picked pool (gather (is_taken (named_at named pool) query) at 0 63)) (filter (λ c. not (bit_and (named c) query == 0)) pool)
  walk_picks = rw (← picked-places pool pool (λ p. not (bit_and (named_at named pool p) query == 0)) (λ c. not (bit_and (named c) query == 0)) 0 (λ j. ap (slice_get pool) (plain j)) (λ j c e. ap (λ p. not (bit_and (named_at named pool p) query == 0)) (plain j) ∙ ap (λ m. not (bit_and m query == 0)) (read_at named pool j c 0 e)))
      (picks_permute pool _ _ walk_mentions) where
        plain : (j : ℕ) → 0 + j ≡ j
        plain j = omega arith
