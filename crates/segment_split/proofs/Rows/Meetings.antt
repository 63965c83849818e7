-- Two segments meet in one place of their rows, at most: in the row in which one of them begins and that the other reaches.
use Rattle.std.specs.Prelude.{◌≡◌, ◌≢◌, ◌⊎◌, ℕ, zero, suc, ◌+◌, ◌-◌, ◌/◌, ◌%◌, ◌<◌, ◌≤◌, Bool, true, false, not, ◌&&◌, cond, nat_lt, nat_le, List, [], ◌∷◌, ◌++◌, sum_by, slice_index_or, IsPermutation}
use Rattle.std.proofs.Common.{sym, subst, refl, ap, ap₂, ◌∙◌, inl, inr, arith}
use Rattle.std.proofs.lemmas.Bool.{cases_Bool, cases_lt, cases_order, ltb-true, lt-ltb}
use Rattle.std.proofs.lemmas.List.Sums.{sum_by-cons, sum_by-append}
use Rattle.std.proofs.lemmas.List.Sorted.{sum_by-IsPermutation}
use Rattle.segment_split.specs.Rows.{place_in, between, followers, all_followers, row_followers, places_from, all_begins, all_passes, IsPartOf}
use Rattle.segment_split.proofs.Rows.Laws.{place_number}
use Rattle.segment_split.proofs.Passes.PairCounts.{sum_to, sum_to_rises, sum_to_both, one_if}

pub sum_both : (f g : ℕ → ℕ) (ps : List ℕ) → sum_by (λ p. f p + g p) ps ≡ sum_by f ps + sum_by g ps
sum_both f g [] = refl
sum_both f g (p ∷ ps) =
    let both = sum_by-cons (λ p. f p + g p) p ps in
    let one = sum_by-cons f p ps in
    let other = sum_by-cons g p ps in
    let rest = sum_both f g ps in
    omega (arith, both, one, other, rest)

sum_same : (f g : ℕ → ℕ) → ((p : ℕ) → f p ≡ g p) → (ps : List ℕ) → sum_by f ps ≡ sum_by g ps
sum_same f g same [] = refl
sum_same f g same (p ∷ ps) =
    let one = sum_by-cons f p ps in
    let other = sum_by-cons g p ps in
    let rest = sum_same f g same ps in
    let own = same p in
    omega (arith, one, other, rest, own)

-- ---- the lists in another order

module _ (reaches : List ℕ) where
  followers_permuted : (to more : List ℕ) → IsPermutation to more → (p : ℕ) → followers reaches more p ≡ followers reaches to p
  followers_permuted to more h p = sum_by-IsPermutation (λ w. cond (nat_lt p w && nat_lt w (place_in (p / 4294967296) (slice_index_or reaches (p % 4294967296) 0))) 1 0) to more h

  all_permuted : (from to other_from other_to : List ℕ) → IsPermutation from other_from → IsPermutation to other_to → all_followers reaches other_from other_to ≡ all_followers reaches from to
  all_permuted from to other_from other_to h k =
      sum_by-IsPermutation (followers reaches other_to) from other_from h ∙ sum_same (followers reaches other_to) (followers reaches to) (followers_permuted to other_to k) from

  rows_permuted : (b p tb tp ob op otb otp : List ℕ) → IsPermutation b ob → IsPermutation p op → IsPermutation tb otb → IsPermutation tp otp → row_followers reaches ob op otb otp ≡ row_followers reaches b p tb tp
  rows_permuted b p tb tp ob op otb otp hb hp htb htp =
      let one = all_permuted b tb ob otb hb htb in
      let two = all_permuted b tp ob otp hb htp in
      let three = all_permuted p tb op otb hp htb in
      omega (arith, one, two, three)

-- ---- parts of the lists

sum_more : (f g : ℕ → ℕ) → ((p : ℕ) → f p ≤ g p) → (ps : List ℕ) → sum_by f ps ≤ sum_by g ps
sum_more f g more [] = omega arith
sum_more f g more (p ∷ ps) =
    let one = sum_by-cons f p ps in
    let other = sum_by-cons g p ps in
    let rest = sum_more f g more ps in
    let own = more p in
    omega (arith, one, other, rest, own)

module _ (reaches : List ℕ) where
  followers_part : (to rest : List ℕ) (p : ℕ) → followers reaches to p ≤ followers reaches (to ++ rest) p
  followers_part to rest p =
      let both = sum_by-append (λ w. cond (nat_lt p w && nat_lt w (place_in (p / 4294967296) (slice_index_or reaches (p % 4294967296) 0))) 1 0) to rest in
      omega (arith, both)

  all_part : (from to more rest : List ℕ) → all_followers reaches from to ≤ all_followers reaches (from ++ more) (to ++ rest)
  all_part from to more rest =
      let both = sum_by-append (followers reaches (to ++ rest)) from more in
      let rises = sum_more (followers reaches to) (followers reaches (to ++ rest)) (followers_part to rest) from in
      omega (arith, both, rises)

  pub rows_part : (b p tb tp ob op otb otp : List ℕ) → IsPartOf b ob → IsPartOf p op → IsPartOf tb otb → IsPartOf tp otp → row_followers reaches ob op otb otp ≤ row_followers reaches b p tb tp
  rows_part b p tb tp ob op otb otp (rb, hb) (rp, hp) (rtb, htb) (rtp, htp) =
      let one = all_part ob otb rb rtb in
      let two = all_part ob otp rb rtp in
      let three = all_part op otb rp rtb in
      let same = rows_permuted reaches b p tb tp (ob ++ rb) (op ++ rp) (otb ++ rtb) (otp ++ rtp) hb hp htb htp in
      omega (arith, one, two, three, same)

-- ---- one segment against the places of another

-- a place between two of one row, of the segment n in the row r
abbrev stands : ℕ → ℕ → ℕ → ℕ → ℕ → ℕ
stands row i reach r n = cond (nat_lt (place_in row i) (place_in r n) && nat_lt (place_in r n) (place_in row reach)) 1 0

pub at_most_nat : (a b : ℕ) → a ≤ b → nat_le a b ≡ true
at_most_nat a b h = grind arith

abbrev pub may : ℕ → ℕ → ℕ → Bool
may i reach n = nat_lt i n && nat_lt n reach

module _ (i reach n : ℕ) (small : i < 4294967296) (few : n < 4294967296) (far : reach ≤ 4294967296) where
  both_below : (a b : Bool) → (a && b) ≡ true → (a ≡ true) × (b ≡ true)
  both_below true true e = (refl, refl)
  both_below true false e = (refl, e)
  both_below false b e = (e, absurd (no e))
    where
      no : false ≡ true → ⊥
      no h = absurd (cc)

  stands_level : (row r : ℕ) → (nat_lt (place_in row i) (place_in r n) && nat_lt (place_in r n) (place_in row reach)) ≡ true → (row ≡ r) × (i < n) × (n < reach)
  stands_level row r e =
      let parts = both_below (nat_lt (place_in row i) (place_in r n)) (nat_lt (place_in r n) (place_in row reach)) e in
      let above : place_in row i < place_in r n = ltb-true (place_in row i) (place_in r n) parts.0 in
      let below : place_in r n < place_in row reach = ltb-true (place_in r n) (place_in row reach) parts.1 in
      let same : row ≡ r = omega (arith, above, below, small, few, far) in
      (same, omega (arith, above, same), omega (arith, below, same))

  stands_most : (row r : ℕ) → stands row i reach r n ≤ cond (may i reach n) 1 0
  stands_most row r = one_if (nat_lt (place_in row i) (place_in r n) && nat_lt (place_in r n) (place_in row reach)) (may i reach n)
      (λ e. let l = stands_level row r e in ap₂ (λ a b. a && b) (lt-ltb i n l.1) (lt-ltb n reach l.2))

  stands_none : (row r : ℕ) → row ≢ r → stands row i reach r n ≡ 0
  stands_none row r differ = by (cases_Bool (nat_lt (place_in row i) (place_in r n) && nat_lt (place_in r n) (place_in row reach)))
    where
      by : ((nat_lt (place_in row i) (place_in r n) && nat_lt (place_in r n) (place_in row reach)) ≡ true) ⊎ ((nat_lt (place_in row i) (place_in r n) && nat_lt (place_in r n) (place_in row reach)) ≡ false) → stands row i reach r n ≡ 0
      by (inl up) = absurd (differ (stands_level row r up).0)
      by (inr down) = ap (λ b. cond b 1 0) down

  -- of the rows that n passes one is the row, at most
  passes_none : (k from row : ℕ) → row < from → between (places_from from k n) (place_in row i) (place_in row reach) ≡ 0
  passes_none zero from row l = refl
  passes_none (suc k) from row l =
      let parts = sum_by-cons (λ w. cond (nat_lt (place_in row i) w && nat_lt w (place_in row reach)) 1 0) (place_in from n) (places_from (from + 1) k n) in
      let own = stands_none row from (λ e. omega (arith, e, l)) in
      let rest = passes_none k (from + 1) row (omega (arith, l)) in
      omega (arith, parts, own, rest)

  passes_most : (k from row : ℕ) → between (places_from from k n) (place_in row i) (place_in row reach) ≤ cond (may i reach n) 1 0
  passes_most zero from row = omega arith
  passes_most (suc k) from row = by (passes_most k (from + 1) row) (cases_order row from)
    where
      parts : between (places_from from (suc k) n) (place_in row i) (place_in row reach) ≡ stands row i reach from n + between (places_from (from + 1) k n) (place_in row i) (place_in row reach)
      parts = sum_by-cons (λ w. cond (nat_lt (place_in row i) w && nat_lt w (place_in row reach)) 1 0) (place_in from n) (places_from (from + 1) k n)

      by : between (places_from (from + 1) k n) (place_in row i) (place_in row reach) ≤ cond (may i reach n) 1 0 → (row ≡ from) ⊎ ((row < from) ⊎ (from < row))
          → between (places_from from (suc k) n) (place_in row i) (place_in row reach) ≤ cond (may i reach n) 1 0
      by others (inl e) = let own = stands_most row from in let rest = passes_none k (from + 1) row (omega (arith, e)) in omega (arith, parts, own, rest)
      by others (inr (inl l)) = let none = passes_none (suc k) from row l in omega (arith, none)
      by others (inr (inr l)) = let own = stands_none row from (λ e. omega (arith, e, l)) in omega (arith, parts, own, others)

  passes_past : (k from row : ℕ) → from + k ≤ row → between (places_from from k n) (place_in row i) (place_in row reach) ≡ 0
  passes_past zero from row l = refl
  passes_past (suc k) from row l =
      let parts = sum_by-cons (λ w. cond (nat_lt (place_in row i) w && nat_lt w (place_in row reach)) 1 0) (place_in from n) (places_from (from + 1) k n) in
      let own = stands_none row from (λ e. omega (arith, e, l)) in
      let rest = passes_past k (from + 1) row (omega (arith, l)) in
      omega (arith, parts, own, rest)

follow_here : (reaches to : List ℕ) (row i : ℕ) → i < 4294967296 → followers reaches to (place_in row i) ≡ between to (place_in row i) (place_in row (slice_index_or reaches i 0))
follow_here reaches to row i small =
    ap₂ (λ a b. between to (place_in row i) (place_in a (slice_index_or reaches b 0))) (omega (arith, small)) (place_number row i small)

-- ---- all pairs of two lists of places

module _ (reaches : List ℕ) (near : (i : ℕ) → slice_index_or reaches i 0 ≤ 4294967296) (low high : ℕ → ℕ) (ordered : (i : ℕ) → low i ≤ high i) where
  abbrev pub reach : ℕ → ℕ
  reach i = slice_index_or reaches i 0

  abbrev pub rows_meet : ℕ → ℕ → Bool
  rows_meet i j = nat_le (low i) (high j) && nat_le (low j) (high i)

  -- the segment i against the places of a list: in its lowest row all of them, in its others those that begin there
  abbrev meets : List ℕ → List ℕ → ℕ → ℕ
  meets begins passes i =
      (followers reaches begins (place_in (low i) i) + followers reaches passes (place_in (low i) i)) + sum_by (followers reaches begins) (places_from (low i + 1) (high i - low i) i)

  followers_append : (xs ys : List ℕ) (p : ℕ) → followers reaches (xs ++ ys) p ≡ followers reaches xs p + followers reaches ys p
  followers_append xs ys p = sum_by-append (λ w. cond (nat_lt p w && nat_lt w (place_in (p / 4294967296) (slice_index_or reaches (p % 4294967296) 0))) 1 0) xs ys

  meets_append : (b p more_b more_p : List ℕ) (i : ℕ) → meets (b ++ more_b) (p ++ more_p) i ≡ meets b p i + meets more_b more_p i
  meets_append b p more_b more_p i =
      let ps = places_from (low i + 1) (high i - low i) i in
      let one = followers_append b more_b (place_in (low i) i) in
      let two = followers_append p more_p (place_in (low i) i) in
      let three = sum_same (followers reaches (b ++ more_b)) (λ q. followers reaches b q + followers reaches more_b q) (followers_append b more_b) ps in
      let four = sum_both (followers reaches b) (followers reaches more_b) ps in
      omega (arith, one, two, three, four)

  none_follow : (ps : List ℕ) → sum_by (followers reaches []) ps ≡ 0
  none_follow [] = refl
  none_follow (p ∷ ps) = let parts = sum_by-cons (followers reaches []) p ps in let rest = none_follow ps in omega (arith, parts, rest)

  meets_none : (i : ℕ) → meets [] [] i ≡ 0
  meets_none i = let none = none_follow (places_from (low i + 1) (high i - low i) i) in omega (arith, none)

  module _ (i : ℕ) (small : i < 4294967296) where
    module _ (n : ℕ) (few : n < 4294967296) where
      one_follows : (row r : ℕ) → followers reaches (place_in r n ∷ []) (place_in row i) ≡ stands row i (reach i) r n
      one_follows row r =
          let here = follow_here reaches (place_in r n ∷ []) row i small in
          let parts = sum_by-cons (λ w. cond (nat_lt (place_in row i) w && nat_lt w (place_in row (reach i))) 1 0) (place_in r n) [] in
          omega (arith, here, parts)

      begins_none : (k from r : ℕ) → r < from → sum_by (followers reaches (place_in r n ∷ [])) (places_from from k i) ≡ 0
      begins_none zero from r l = refl
      begins_none (suc k) from r l =
          let parts = sum_by-cons (followers reaches (place_in r n ∷ [])) (place_in from i) (places_from (from + 1) k i) in
          let own = one_follows from r ∙ stands_none i (reach i) n small few (near i) from r (λ e. omega (arith, e, l)) in
          let rest = begins_none k (from + 1) r (omega (arith, l)) in
          omega (arith, parts, own, rest)

      begins_past : (k from r : ℕ) → from + k ≤ r → sum_by (followers reaches (place_in r n ∷ [])) (places_from from k i) ≡ 0
      begins_past zero from r l = refl
      begins_past (suc k) from r l =
          let parts = sum_by-cons (followers reaches (place_in r n ∷ [])) (place_in from i) (places_from (from + 1) k i) in
          let own = one_follows from r ∙ stands_none i (reach i) n small few (near i) from r (λ e. omega (arith, e, l)) in
          let rest = begins_past k (from + 1) r (omega (arith, l)) in
          omega (arith, parts, own, rest)

      begins_most : (k from r : ℕ) → sum_by (followers reaches (place_in r n ∷ [])) (places_from from k i) ≤ cond (may i (reach i) n) 1 0
      begins_most zero from r = omega arith
      begins_most (suc k) from r = by (begins_most k (from + 1) r) (cases_order r from)
        where
          parts : sum_by (followers reaches (place_in r n ∷ [])) (places_from from (suc k) i) ≡ stands from i (reach i) r n + sum_by (followers reaches (place_in r n ∷ [])) (places_from (from + 1) k i)
          parts =
              sum_by-cons (followers reaches (place_in r n ∷ [])) (place_in from i) (places_from (from + 1) k i)
              ∙ ap (λ a. a + sum_by (followers reaches (place_in r n ∷ [])) (places_from (from + 1) k i)) (one_follows from r)

          by : sum_by (followers reaches (place_in r n ∷ [])) (places_from (from + 1) k i) ≤ cond (may i (reach i) n) 1 0 → (r ≡ from) ⊎ ((r < from) ⊎ (from < r))
              → sum_by (followers reaches (place_in r n ∷ [])) (places_from from (suc k) i) ≤ cond (may i (reach i) n) 1 0
          by others (inl e) = let own = stands_most i (reach i) n small few (near i) from r in let rest = begins_none k (from + 1) r (omega (arith, e)) in omega (arith, parts, own, rest)
          by others (inr (inl l)) = let none = begins_none (suc k) from r l in omega (arith, none)
          by others (inr (inr l)) = let own = stands_none i (reach i) n small few (near i) from r (λ e. omega (arith, e, l)) in omega (arith, parts, own, others)

      -- the segment n is met once, at most
      meets_once : meets (place_in (low n) n ∷ []) (places_from (low n + 1) (high n - low n) n) i ≤ cond (may i (reach i) n) 1 0
      meets_once = by (cases_order (low i) (low n))
        where
          own : followers reaches (place_in (low n) n ∷ []) (place_in (low i) i) ≡ stands (low i) i (reach i) (low n) n
          own = one_follows (low i) (low n)

          pass : followers reaches (places_from (low n + 1) (high n - low n) n) (place_in (low i) i) ≡ between (places_from (low n + 1) (high n - low n) n) (place_in (low i) i) (place_in (low i) (reach i))
          pass = follow_here reaches (places_from (low n + 1) (high n - low n) n) (low i) i small

          by : (low i ≡ low n) ⊎ ((low i < low n) ⊎ (low n < low i)) → meets (place_in (low n) n ∷ []) (places_from (low n + 1) (high n - low n) n) i ≤ cond (may i (reach i) n) 1 0
          by (inl e) =
              let one = stands_most i (reach i) n small few (near i) (low i) (low n) in
              let two = passes_none i (reach i) n small few (near i) (high n - low n) (low n + 1) (low i) (omega (arith, e)) in
              let three = begins_none (high i - low i) (low i + 1) (low n) (omega (arith, e)) in
              omega (arith, own, pass, one, two, three)
          by (inr (inl l)) =
              let one = stands_none i (reach i) n small few (near i) (low i) (low n) (λ e. omega (arith, e, l)) in
              let two = passes_none i (reach i) n small few (near i) (high n - low n) (low n + 1) (low i) (omega (arith, l)) in
              let three = begins_most (high i - low i) (low i + 1) (low n) in
              omega (arith, own, pass, one, two, three)
          by (inr (inr l)) =
              let one = stands_none i (reach i) n small few (near i) (low i) (low n) (λ e. omega (arith, e, l)) in
              let two = passes_most i (reach i) n small few (near i) (high n - low n) (low n + 1) (low i) in
              let three = begins_none (high i - low i) (low i + 1) (low n) (omega (arith, l)) in
              omega (arith, own, pass, one, two, three)

      -- and not at all, where no row is common
      never_met : rows_meet i n ≡ false → meets (place_in (low n) n ∷ []) (places_from (low n + 1) (high n - low n) n) i ≡ 0
      never_met down = by (cases_order (low i) (low n))
        where
          own : followers reaches (place_in (low n) n ∷ []) (place_in (low i) i) ≡ stands (low i) i (reach i) (low n) n
          own = one_follows (low i) (low n)

          pass : followers reaches (places_from (low n + 1) (high n - low n) n) (place_in (low i) i) ≡ between (places_from (low n + 1) (high n - low n) n) (place_in (low i) i) (place_in (low i) (reach i))
          pass = follow_here reaches (places_from (low n + 1) (high n - low n) n) (low i) i small

          apart : (low i ≤ high n) × (low n ≤ high i) → ⊥
          apart (l, m) = let up : rows_meet i n ≡ true = ap₂ (λ a b. a && b) (at_most_nat (low i) (high n) l) (at_most_nat (low n) (high i) m) in let clash : true ≡ false = sym up ∙ down in absurd (cc)

          by : (low i ≡ low n) ⊎ ((low i < low n) ⊎ (low n < low i)) → meets (place_in (low n) n ∷ []) (places_from (low n + 1) (high n - low n) n) i ≡ 0
          by (inl e) = absurd (apart (omega (arith, e, ordered n), omega (arith, e, ordered i)))
          by (inr (inl l)) = absent (cases_lt (high i) (low n))
            where
              absent : (high i < low n) ⊎ (low n ≤ high i) → meets (place_in (low n) n ∷ []) (places_from (low n + 1) (high n - low n) n) i ≡ 0
              absent (inl past) =
                  let one = stands_none i (reach i) n small few (near i) (low i) (low n) (λ e. omega (arith, e, l)) in
                  let two = passes_none i (reach i) n small few (near i) (high n - low n) (low n + 1) (low i) (omega (arith, l)) in
                  let three = begins_past (high i - low i) (low i + 1) (low n) (omega (arith, past, l)) in
                  omega (arith, own, pass, one, two, three)
              absent (inr reached) = absurd (apart (omega (arith, l, ordered n), reached))
          by (inr (inr l)) = absent (cases_lt (high n) (low i))
            where
              absent : (high n < low i) ⊎ (low i ≤ high n) → meets (place_in (low n) n ∷ []) (places_from (low n + 1) (high n - low n) n) i ≡ 0
              absent (inl past) =
                  let one = stands_none i (reach i) n small few (near i) (low i) (low n) (λ e. omega (arith, e, l)) in
                  let two = passes_past i (reach i) n small few (near i) (high n - low n) (low n + 1) (low i) (omega (arith, past, l)) in
                  let three = begins_none (high i - low i) (low i + 1) (low n) (omega (arith, l)) in
                  omega (arith, own, pass, one, two, three)
              absent (inr reached) = absurd (apart (reached, omega (arith, l, ordered i)))

      met_where : meets (place_in (low n) n ∷ []) (places_from (low n + 1) (high n - low n) n) i ≤ cond (may i (reach i) n && rows_meet i n) 1 0
      met_where = by (cases_Bool (rows_meet i n))
        where
          with_rows : (b c : Bool) → c ≡ true → cond b 1 0 ≤ cond (b && c) 1 0
          with_rows true c up = subst (λ d. 1 ≤ cond d 1 0) (sym up) (omega arith)
          with_rows false c up = omega arith

          by : (rows_meet i n ≡ true) ⊎ (rows_meet i n ≡ false) → meets (place_in (low n) n ∷ []) (places_from (low n + 1) (high n - low n) n) i ≤ cond (may i (reach i) n && rows_meet i n) 1 0
          by (inl up) = let once = meets_once in let same = with_rows (may i (reach i) n) (rows_meet i n) up in omega (arith, once, same)
          by (inr down) = let none = never_met down in omega (arith, none)

      met_if : (b : Bool) → meets (cond b (place_in (low n) n ∷ []) []) (cond b (places_from (low n + 1) (high n - low n) n) []) i ≤ cond (b && (may i (reach i) n && rows_meet i n)) 1 0
      met_if true = met_where
      met_if false = let none = meets_none i in omega (arith, none)

    meets_all : (chosen : ℕ → Bool) (n : ℕ) → n ≤ 4294967296 → meets (all_begins chosen low n) (all_passes chosen low high n) i ≤ sum_to (λ j. cond (chosen j && (may i (reach i) j && rows_meet i j)) 1 0) n
    meets_all chosen zero few = let none = meets_none i in omega (arith, none)
    meets_all chosen (suc n) few =
        let last = met_if n (omega (arith, few)) (chosen n) in
        let before = meets_all chosen n (omega (arith, few)) in
        let parts = meets_append (all_begins chosen low n) (all_passes chosen low high n) (cond (chosen n) (place_in (low n) n ∷ []) []) (cond (chosen n) (places_from (low n + 1) (high n - low n) n) []) i in
        omega (arith, last, before, parts)

  -- what each of the first segments meets, together
  module _ (begins passes : List ℕ) where
    own_if : (n : ℕ) (b : Bool) →
        (all_followers reaches (cond b (place_in (low n) n ∷ []) []) begins + all_followers reaches (cond b (place_in (low n) n ∷ []) []) passes)
        + all_followers reaches (cond b (places_from (low n + 1) (high n - low n) n) []) begins ≡ cond b (meets begins passes n) 0
    own_if n true =
        let one = sum_by-cons (followers reaches begins) (place_in (low n) n) [] in
        let two = sum_by-cons (followers reaches passes) (place_in (low n) n) [] in
        omega (arith, one, two)
    own_if n false = refl

    rows_are : (chosen : ℕ → Bool) (n : ℕ) → row_followers reaches (all_begins chosen low n) (all_passes chosen low high n) begins passes ≡ sum_to (λ i. cond (chosen i) (meets begins passes i) 0) n
    rows_are chosen zero = refl
    rows_are chosen (suc n) =
        let b = cond (chosen n) (place_in (low n) n ∷ []) [] in
        let p = cond (chosen n) (places_from (low n + 1) (high n - low n) n) [] in
        let one = sum_by-append (followers reaches begins) (all_begins chosen low n) b in
        let two = sum_by-append (followers reaches passes) (all_begins chosen low n) b in
        let three = sum_by-append (followers reaches begins) (all_passes chosen low high n) p in
        let last = own_if n (chosen n) in
        let before = rows_are chosen n in
        omega (arith, one, two, three, last, before)

  -- new ones among themselves, new ones against old ones, and old ones against new ones
  module _ (old : ℕ → Bool) (n : ℕ) (few : n ≤ 4294967296) where
    abbrev pub fresh_begins : List ℕ
    fresh_begins = all_begins (λ i. not (old i)) low n

    abbrev pub fresh_passes : List ℕ
    fresh_passes = all_passes (λ i. not (old i)) low high n

    abbrev pub old_begins : List ℕ
    old_begins = all_begins old low n

    abbrev pub old_passes : List ℕ
    old_passes = all_passes old low high n

    -- those that the segment i may meet: all of them if it is new, else the new ones
    abbrev met_as : Bool → ℕ → ℕ
    met_as is_old i = sum_to (λ j. cond ((may i (reach i) j && rows_meet i j) && not (is_old && old j)) 1 0) n

    abbrev pub all_met : ℕ → ℕ
    all_met i = met_as (old i) i

    either_kind : (b m : Bool) → cond (not b && m) 1 0 + cond (b && m) 1 0 ≤ cond (m && not (false && b)) 1 0
    either_kind true true = omega arith
    either_kind true false = omega arith
    either_kind false true = omega arith
    either_kind false false = omega arith

    new_kind : (b m : Bool) → cond (not b && m) 1 0 ≤ cond (m && not (true && b)) 1 0
    new_kind true m = omega arith
    new_kind false true = omega arith
    new_kind false false = omega arith

    met_by_new : (i : ℕ) → i < 4294967296 → meets fresh_begins fresh_passes i + meets old_begins old_passes i ≤ met_as false i
    met_by_new i small =
        let new = meets_all i small (λ j. not (old j)) n few in
        let those = meets_all i small old n few in
        let both = sum_to_both (λ j. cond (not (old j) && (may i (reach i) j && rows_meet i j)) 1 0) (λ j. cond (old j && (may i (reach i) j && rows_meet i j)) 1 0) n in
        let rises = sum_to_rises (λ j. cond (not (old j) && (may i (reach i) j && rows_meet i j)) 1 0 + cond (old j && (may i (reach i) j && rows_meet i j)) 1 0) (λ j. cond ((may i (reach i) j && rows_meet i j) && not (false && old j)) 1 0) n (λ j l. either_kind (old j) (may i (reach i) j && rows_meet i j)) in
        omega (arith, new, those, both, rises)

    met_by_old : (i : ℕ) → i < 4294967296 → meets fresh_begins fresh_passes i ≤ met_as true i
    met_by_old i small =
        let new = meets_all i small (λ j. not (old j)) n few in
        let rises = sum_to_rises (λ j. cond (not (old j) && (may i (reach i) j && rows_meet i j)) 1 0) (λ j. cond ((may i (reach i) j && rows_meet i j) && not (true && old j)) 1 0) n (λ j l. new_kind (old j) (may i (reach i) j && rows_meet i j)) in
        omega (arith, new, rises)

    by_kind : (b : Bool) (x y : ℕ) (most : Bool → ℕ) → x + y ≤ most false → x ≤ most true → (cond (not b) x 0 + cond (not b) y 0) + cond b x 0 ≤ most b
    by_kind true x y most h k = omega (arith, k)
    by_kind false x y most h k = omega (arith, h)

    pub meetings :
        (row_followers reaches fresh_begins fresh_passes fresh_begins fresh_passes + row_followers reaches fresh_begins fresh_passes old_begins old_passes)
        + row_followers reaches old_begins old_passes fresh_begins fresh_passes ≤ sum_to all_met n
    meetings =
        let x = meets fresh_begins fresh_passes in
        let y = meets old_begins old_passes in
        let one = rows_are fresh_begins fresh_passes (λ i. not (old i)) n in
        let two = rows_are old_begins old_passes (λ i. not (old i)) n in
        let three = rows_are fresh_begins fresh_passes old n in
        let first = sum_to_both (λ i. cond (not (old i)) (x i) 0) (λ i. cond (not (old i)) (y i) 0) n in
        let second = sum_to_both (λ i. cond (not (old i)) (x i) 0 + cond (not (old i)) (y i) 0) (λ i. cond (old i) (x i) 0) n in
        let rises = sum_to_rises (λ i. (cond (not (old i)) (x i) 0 + cond (not (old i)) (y i) 0) + cond (old i) (x i) 0) all_met n (λ i l. by_kind (old i) (x i) (y i) (λ b. met_as b i) (met_by_new i (omega (arith, l, few))) (met_by_old i (omega (arith, l, few)))) in
        omega (arith, one, two, three, first, second, rises)

    -- new ones among themselves alone
    abbrev pub new_met : ℕ → ℕ
    new_met i = sum_to (λ j. cond ((may i (reach i) j && rows_meet i j) && (not (old i) && not (old j))) 1 0) n

    met_if_new : (b : Bool) (i : ℕ) → i < 4294967296 → cond (not b) (meets fresh_begins fresh_passes i) 0
        ≤ sum_to (λ j. cond ((may i (reach i) j && rows_meet i j) && (not b && not (old j))) 1 0) n
    met_if_new true i small = omega arith
    met_if_new false i small =
        let new = meets_all i small (λ j. not (old j)) n few in
        let rises = sum_to_rises (λ j. cond (not (old j) && (may i (reach i) j && rows_meet i j)) 1 0) (λ j. cond ((may i (reach i) j && rows_meet i j) && not (old j)) 1 0) n (λ j l. turned (not (old j)) (may i (reach i) j && rows_meet i j)) in
        omega (arith, new, rises)
      where
        turned : (b m : Bool) → cond (b && m) 1 0 ≤ cond (m && b) 1 0
        turned true true = omega arith
        turned true false = omega arith
        turned false m = omega arith

    pub new_meetings : row_followers reaches fresh_begins fresh_passes fresh_begins fresh_passes ≤ sum_to new_met n
    new_meetings =
        let all = rows_are fresh_begins fresh_passes (λ i. not (old i)) n in
        let rises = sum_to_rises (λ i. cond (not (old i)) (meets fresh_begins fresh_passes i) 0) new_met n (λ i l. met_if_new (old i) i (omega (arith, l, few))) in
        omega (arith, all, rises)
