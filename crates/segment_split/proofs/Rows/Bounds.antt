-- How many pairs the rows look at: no more than share an x.
use Rattle.std.specs.Prelude.{◌≡◌, ℕ, ◌+◌, ◌<◌, ◌≤◌, ℤ, pos, ◌≤ℤ◌, Bool, true, false, not, ◌&&◌, nat_lt, nat_le, int_le, List, length, slice_index_or, All, AllPairs}
use Rattle.std.specs.Int.{int_min, int_max}
use Rattle.std.specs.declared.cmp.Ordering.TheVariants.{Less}
use Rattle.std.proofs.Common.{refl, ap, ap₂, ◌⊎◌, inl, inr, arith}
use Rattle.std.proofs.lemmas.Int.{ints}
use Rattle.std.proofs.lemmas.Bool.{cases_Bool, ltb-true}
use Rattle.std.proofs.lemmas.List.{get_or_default}
use Rattle.std.proofs.lemmas.List.Elements.{All-contains}
use Rattle.plane_base.specs.Plane.{Edge, is_before, edge_order}
use Rattle.segment_split.specs.MarkLists.{IsAt}
use Rattle.segment_split.specs.Mixed.{TakesBothNew}
use Rattle.segment_split.specs.Rows.{AreReaches, ArePlaced, lowest_row, highest_row, row_at, is_old, row_followers, TakesNew}
use Rattle.segment_split.specs.StepBounds.{pairs_by, share_point, x_range}
use Rattle.segment_split.proofs.Passes.MarkLists.{at_contains, forward_x}
use Rattle.segment_split.proofs.Passes.PairCounts.{pairs_by_number}
use Rattle.segment_split.proofs.Rows.Laws.{row_rises, reach_few, starts_near}
use Rattle.plane_base.proofs.Facts.Crossings.Place.{min_first, max_first}
use Rattle.segment_split.proofs.Rows.Meetings.{meetings, new_meetings, rows_part, fresh_begins, fresh_passes, old_begins, old_passes}

pub at_most : (x y : ℤ) → x ≤ℤ y → int_le x y ≡ true
at_most x y h = grind (arith, ints)

module _ (es : List Edge) (rising : AllPairs (λ s t. edge_order s t ≡ Less) es) (ahead : All (λ s. is_before s.a s.b ≡ true) es) (reaches : List ℕ) (far : AreReaches es reaches) where
  abbrev origin : Edge
  origin = record { a = record { x = pos 0; y = pos 0 }; b = record { x = pos 0; y = pos 0 } }

  here : (i : ℕ) → i < length es → IsAt es i (slice_index_or es i origin)
  here i within = (within, get_or_default es i origin (slice_index_or es i origin) within)

  through : (x y z : ℤ) → x ≤ℤ y → y ≤ℤ z → x ≤ℤ z
  through x y z a b = omega (arith, ints)

  same : (x : ℤ) → x ≤ℤ x
  same x = omega (arith, ints)

  share_x : (i j : ℕ) → i < j → j < length es → j < slice_index_or reaches i 0
      → share_point (x_range (slice_index_or es i origin)) (x_range (slice_index_or es j origin)) ≡ true
  share_x i j before within close =
      let s = slice_index_or es i origin in
      let t = slice_index_or es j origin in
      let at = here i (omega (arith, before, within)) in
      let there = here j within in
      let near : t.a.x ≤ℤ s.b.x = far.near i j s t at there close in
      let first : s.a.x ≤ℤ t.a.x = starts_near es rising t.a.x j t there (same t.a.x) i s (omega (arith, before)) at in
      let along : t.a.x ≤ℤ t.b.x = forward_x t (All-contains (λ s. is_before s.a s.b ≡ true) es t ahead (at_contains es j t there)) in
      ap₂ (λ a b. a && b) (at_most s.a.x t.b.x (through s.a.x t.a.x t.b.x first along)) (at_most t.a.x s.b.x near)

  both : (a b : Bool) → (a && b) ≡ true → (a ≡ true) × (b ≡ true)
  both true true e = (refl, refl)
  both true false e = (refl, e)
  both false b e = absurd (cc)

  negated : (b : Bool) → not b ≡ true → b ≡ false
  negated true e = absurd (cc)
  negated false e = refl

  module _ (least : ℤ) (width : ℕ) (wide : 0 < width) where
    abbrev low : ℕ → ℕ
    low i = row_at (lowest_row least width) es i

    abbrev high : ℕ → ℕ
    high i = row_at (highest_row least width) es i

    abbrev near : ℕ → ℕ → Bool
    near i j = (nat_lt i j && nat_lt j (slice_index_or reaches i 0)) && (nat_le (low i) (high j) && nat_le (low j) (high i))

    near_shares : (i j : ℕ) → i < j → j < length es → near i j ≡ true → share_point (x_range (slice_index_or es i origin)) (x_range (slice_index_or es j origin)) ≡ true
    near_shares i j before within e =
        let parts = both (nat_lt i j && nat_lt j (slice_index_or reaches i 0)) (nat_le (low i) (high j) && nat_le (low j) (high i)) e in
        share_x i j before within (ltb-true j (slice_index_or reaches i 0) (both (nat_lt i j) (nat_lt j (slice_index_or reaches i 0)) parts.0).1)

    near_forward : (i j : ℕ) (b : Bool) → j ≤ i → (near i j && b) ≡ false
    near_forward i j b l = by (cases_Bool (nat_lt i j))
      where
        by : (nat_lt i j ≡ true) ⊎ (nat_lt i j ≡ false) → (near i j && b) ≡ false
        by (inl up) = let less : i < j = ltb-true i j up in absurd (omega (arith, less, l))
        by (inr down) = ap (λ c. ((c && nat_lt j (slice_index_or reaches i 0)) && (nat_le (low i) (high j) && nat_le (low j) (high i))) && b) down

    rows_ordered : (i : ℕ) → low i ≤ high i
    rows_ordered i =
        let s = slice_index_or es i origin in
        row_rises least width wide (int_min s.a.y s.b.y) (int_max s.a.y s.b.y) (through (int_min s.a.y s.b.y) s.a.y (int_max s.a.y s.b.y) (min_first s.a.y s.b.y) (max_first s.a.y s.b.y))

    -- those of which one is new
    module _ (next_new : List ℕ) (test : Edge → Edge → Bool) (takes : TakesNew es next_new test) where
      abbrev may : ℕ → ℕ → Bool
      may i j = near i j && not (is_old next_new i && is_old next_new j)

      pairs_meet : (i j : ℕ) → i < j → j < length es → may i j ≡ true → test (slice_index_or es i origin) (slice_index_or es j origin) ≡ true
      pairs_meet i j before within e =
          let parts = both (near i j) (not (is_old next_new i && is_old next_new j)) e in
          takes i j (slice_index_or es i origin) (slice_index_or es j origin) (before, negated (is_old next_new i && is_old next_new j) parts.1) (here i (omega (arith, before, within))) (here j within)
          (near_shares i j before within parts.0)

      pub rows_bound :
          (begins passes old_b old_p : List ℕ) → length es < 4294967296 → ArePlaced least width es next_new (length es) begins passes old_b old_p
          → (row_followers reaches begins passes begins passes + row_followers reaches begins passes old_b old_p) + row_followers reaches old_b old_p begins passes
          ≤ pairs_by test es
      rows_bound begins passes old_b old_p few placed =
          let close = reach_few es reaches few far in
          let n = length es in
          let old = is_old next_new in
          let most : n ≤ 4294967296 = omega (arith, few) in
          let fb = fresh_begins reaches close low high rows_ordered old n most in
          let fp = fresh_passes reaches close low high rows_ordered old n most in
          let ob = old_begins reaches close low high rows_ordered old n most in
          let op = old_passes reaches close low high rows_ordered old n most in
          let one = rows_part reaches fb fp fb fp begins passes begins passes placed.fresh.begins_are placed.fresh.passes_are placed.fresh.begins_are placed.fresh.passes_are in
          let two = rows_part reaches fb fp ob op begins passes old_b old_p placed.fresh.begins_are placed.fresh.passes_are placed.old.begins_are placed.old.passes_are in
          let three = rows_part reaches ob op fb fp old_b old_p begins passes placed.old.begins_are placed.old.passes_are placed.fresh.begins_are placed.fresh.passes_are in
          let met = meetings reaches close low high rows_ordered old n most in
          let numbers = pairs_by_number test es origin may pairs_meet (λ i j l. near_forward i j (not (is_old next_new i && is_old next_new j)) l) in
          omega (arith, one, two, three, met, numbers)

    -- those of which both are
    module _ (next_new : List ℕ) (test : Edge → Edge → Bool) (takes : TakesBothNew es next_new test) where
      abbrev may_both : ℕ → ℕ → Bool
      may_both i j = near i j && (not (is_old next_new i) && not (is_old next_new j))

      new_meet : (i j : ℕ) → i < j → j < length es → may_both i j ≡ true → test (slice_index_or es i origin) (slice_index_or es j origin) ≡ true
      new_meet i j before within e =
          let parts = both (near i j) (not (is_old next_new i) && not (is_old next_new j)) e in
          let new = both (not (is_old next_new i)) (not (is_old next_new j)) parts.1 in
          takes i j (slice_index_or es i origin) (slice_index_or es j origin) (before, negated (is_old next_new i) new.0, negated (is_old next_new j) new.1) (here i (omega (arith, before, within))) (here j within)
          (near_shares i j before within parts.0)

      pub new_bound :
          (begins passes old_b old_p : List ℕ) → length es < 4294967296 → ArePlaced least width es next_new (length es) begins passes old_b old_p
          → row_followers reaches begins passes begins passes ≤ pairs_by test es
      new_bound begins passes old_b old_p few placed =
          let close = reach_few es reaches few far in
          let n = length es in
          let old = is_old next_new in
          let most : n ≤ 4294967296 = omega (arith, few) in
          let fb = fresh_begins reaches close low high rows_ordered old n most in
          let fp = fresh_passes reaches close low high rows_ordered old n most in
          let part = rows_part reaches fb fp fb fp begins passes begins passes placed.fresh.begins_are placed.fresh.passes_are placed.fresh.begins_are placed.fresh.passes_are in
          let met = new_meetings reaches close low high rows_ordered old n most in
          let numbers = pairs_by_number test es origin may_both new_meet (λ i j l. near_forward i j (not (is_old next_new i) && not (is_old next_new j)) l) in
          omega (arith, part, met, numbers)
