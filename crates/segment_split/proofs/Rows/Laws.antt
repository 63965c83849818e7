-- Rows of y, and the places of segments in them.
use Rattle.std.specs.Prelude.{◌≡◌, ◌&&◌, ◌⊎◌, ℕ, zero, suc, cond, ◌+◌, ◌-◌, ◌*◌, ◌/◌, ◌%◌, ◌<◌, ◌≤◌, ℤ, pos, negsuc, ◌-ℤ◌, ◌≤ℤ◌, ◌<ℤ◌, List, [], ◌∷◌, ◌++◌, length, All, AllPairs, Contains, IsPermutation, slice_index_or, true, false, Bool, not, ⊤, count_by, int_le}
use Rattle.std.specs.Int.{int_min, int_max, int_gap}
use Rattle.std.specs.List.Sorted.{IsNonDecreasing}
use Rattle.std.specs.declared.cmp.Ordering.TheVariants.{Less}
use Rattle.std.proofs.Common.{refl, sym, ap, ap₂, ◌∙◌, subst, inl, inr, ⊎_elim, arith}
use Rattle.std.proofs.Math.Nat.{le-div_iff_mul-le, div-mul-le_self}
use Rattle.std.proofs.lemmas.Int.{ints}
use Rattle.std.proofs.lemmas.List.Sorted.{All-permutation}
use Rattle.std.proofs.lemmas.List.Elements.{All-nil, All-cons, All-append, All-contains, All-map, Contains-append_left, Contains-append_right}
use Rattle.std.proofs.lemmas.Bool.{cases_Bool, cases_lt, cases_order, ltb-true, true≢false}
use Rattle.std.proofs.lemmas.List.{get_or_default, get_or_past, get_or-map}
use Rattle.std.proofs.lemmas.List.Sums.{count_by-le-length, sum_by-cons}
use Rattle.std.proofs.lemmas.List.FromFn.{map-range_with_len_more}
use Rattle.plane_base.specs.Plane.{Edge, is_before, edge_order}
use Rattle.plane_base.proofs.Facts.Points.Orders.{less_then, point_less_x, point_equal}
use Rattle.plane_base.specs.Crossing.{no_marks, marks_by}
use Rattle.plane_base.proofs.Facts.Crossings.Place.{min_first, max_first}
use Rattle.segment_split.specs.MarkLists.{IsAt, SkipsOld}
use Rattle.segment_split.specs.Rows.{row_of, lowest_row, highest_row, place_in, places_from, IsNumbered, ArePlaces, AreRows, IsPlaced, AddsPart, AddsNear, ComesTo, is_old, MeetsNew, ArePlaced, IsFirstAfter, AreReaches, LiesOnward, reach_of, reaches_of, Follows, FollowsInRows, FollowsIn, FollowsBetween, FollowsAmong, IsNewPair}
use Rattle.plane_base.specs.declared.rounding.Rounding.{Rounding}
use Rattle.plane_base.proofs.Facts.Crossings.Roundings.{unmarked_apart, unless_parted}
use Rattle.plane_base.proofs.Facts.Crossings.Onward.{onward_parted}
use Rattle.segment_split.proofs.Rows.Parts.{adds_none, adds_near, adds_both}
use Rattle.segment_split.proofs.Passes.MarkLists.{at_same, at_contains, unmarked_past, old_none, forward_x}

-- ---- rows

gap_rises : (l y z : ℤ) → y ≤ℤ z → int_gap l y ≤ int_gap l z
gap_rises (pos l) (pos y) (pos z) h = omega (arith, ints)
gap_rises (pos l) (pos y) (negsuc z) h = omega (arith, ints)
gap_rises (pos l) (negsuc y) (pos z) h = omega (arith, ints)
gap_rises (pos l) (negsuc y) (negsuc z) h = omega (arith, ints)
gap_rises (negsuc l) (pos y) (pos z) h = omega (arith, ints)
gap_rises (negsuc l) (pos y) (negsuc z) h = omega (arith, ints)
gap_rises (negsuc l) (negsuc y) (pos z) h = omega (arith, ints)
gap_rises (negsuc l) (negsuc y) (negsuc z) h = omega (arith, ints)

-- the gap as a difference
pub gap_above : (l y : ℤ) → l ≤ℤ y → pos (int_gap l y) ≡ y -ℤ l
gap_above (pos l) (pos y) h = omega (arith, ints)
gap_above (pos l) (negsuc y) h = absurd (omega (arith, ints))
gap_above (negsuc l) (pos y) h = omega (arith, ints)
gap_above (negsuc l) (negsuc y) h = omega (arith, ints)

through : (a b c : ℕ) → a ≤ b → b ≤ c → a ≤ c
through a b c h k = omega (arith, h, k)

pub row_rises : (least : ℤ) (width : ℕ) → 0 < width → (y z : ℤ) → y ≤ℤ z → row_of least width y ≤ row_of least width z
row_rises least width wide y z h =
    (le-div_iff_mul-le wide).1 (through (row_of least width y * width) (int_gap least y) (int_gap least z) (div-mul-le_self (int_gap least y) width) (gap_rises least y z h))

min_to_max : (x y : ℤ) → int_min x y ≤ℤ int_max x y
min_to_max x y = by (int_min x y) x (int_max x y) (min_first x y) (max_first x y)
  where
    by : (a b c : ℤ) → a ≤ℤ b → b ≤ℤ c → a ≤ℤ c
    by a b c h k = omega (arith, ints)

-- ---- places

-- a place between two of one row is in that row
pub place_between : (row i reach p : ℕ) → reach ≤ 4294967296 → place_in row i < p → p < place_in row reach → p ≡ place_in row (p % 4294967296)
place_between row i reach p few h k = omega (arith, h, k)

pub place_apart : (row i p : ℕ) → place_in row i < p → p ≡ place_in row (p % 4294967296) → i < p % 4294967296
place_apart row i p h e = omega (arith, h, e)

pub place_of : (p : ℕ) → place_in (p / 4294967296) (p % 4294967296) ≡ p
place_of p = omega arith

pub same_place : (row r n i : ℕ) → n < 4294967296 → i < 4294967296 → place_in row n ≡ place_in r i → (row ≡ r) × (n ≡ i)
same_place row r n i few less e = (omega (arith, e), omega (arith, e))

pub place_number : (row i : ℕ) → i < 4294967296 → place_in row i % 4294967296 ≡ i
place_number row i h = omega arith

pub reach_few : (es : List Edge) (reaches : List ℕ) → length es < 4294967296 → AreReaches es reaches → (i : ℕ) → slice_index_or reaches i 0 ≤ 4294967296
reach_few es reaches few far i = let h = far.within i in omega (arith, h, few)

-- what follows an edge that begins past x does too
pub starts_past : (es : List Edge) → AllPairs (λ s t. edge_order s t ≡ Less) es → (x : ℤ) (m : ℕ) (u : Edge) → IsAt es m u → x <ℤ u.a.x → (j : ℕ) (t : Edge) → m ≤ j → IsAt es j t → x <ℤ t.a.x
starts_past es rising x m u at past j t l there = by (cases_order m j)
  where
    right : (y z : ℤ) → x <ℤ y → y ≤ℤ z → x <ℤ z
    right y z a b = omega (arith, ints)

    level : (y z : ℤ) → y ≡ z → y ≤ℤ z
    level y z e = omega (arith, ints)

    after : edge_order u t ≡ Less → u.a.x ≤ℤ t.a.x
    after less = ⊎_elim (λ e. point_less_x u.a t.a e) (λ e. level u.a.x t.a.x (ap (λ p. p.x) (point_equal u.a t.a e.0))) (less_then _ _ less)

    by : (m ≡ j) ⊎ ((m < j) ⊎ (j < m)) → x <ℤ t.a.x
    by (inl e) = subst (λ v. x <ℤ v.a.x) (at_same es j u t (subst (λ n. IsAt es n u) e at) there) past
    by (inr (inl less)) = right u.a.x t.a.x past (after (ap₂ edge_order at.1 (there.1 ∙ get_or_default es j t u there.0) ∙ rising m j u less there.0))
    by (inr (inr more)) = absurd (omega (arith, l, more))

-- and what comes before one that doesn't begin past x doesn't either
pub starts_near : (es : List Edge) → AllPairs (λ s t. edge_order s t ≡ Less) es → (x : ℤ) (m : ℕ) (u : Edge) → IsAt es m u → u.a.x ≤ℤ x → (j : ℕ) (t : Edge) → j ≤ m → IsAt es j t → t.a.x ≤ℤ x
starts_near es rising x m u at near j t l there = by (cases_order m j)
  where
    left : (y z : ℤ) → y ≤ℤ x → z ≤ℤ y → z ≤ℤ x
    left y z a b = omega (arith, ints)

    level : (y z : ℤ) → y ≡ z → y ≤ℤ z
    level y z e = omega (arith, ints)

    after : edge_order t u ≡ Less → t.a.x ≤ℤ u.a.x
    after less = ⊎_elim (λ e. point_less_x t.a u.a e) (λ e. level t.a.x u.a.x (ap (λ p. p.x) (point_equal t.a u.a e.0))) (less_then _ _ less)

    by : (m ≡ j) ⊎ ((m < j) ⊎ (j < m)) → t.a.x ≤ℤ x
    by (inl e) = subst (λ v. v.a.x ≤ℤ x) (at_same es j u t (subst (λ n. IsAt es n u) e at) there) near
    by (inr (inl less)) = absurd (omega (arith, l, less))
    by (inr (inr more)) = left u.a.x t.a.x near (after (ap₂ edge_order there.1 (at.1 ∙ get_or_default es m u t at.0) ∙ rising j m t more at.0))

-- the edges of a list that pass a test stand first, where none passes it after one that doesn't: as many as pass it
module _ (test : Edge → Bool) (d : Edge) where
  abbrev Falls : List Edge → Type 0
  Falls es = (m j : ℕ) → m ≤ j → j < length es → test (slice_index_or es j d) ≡ true → test (slice_index_or es m d) ≡ true

  abbrev Tells : List Edge → ℕ → Type 0
  Tells es j = (j < count_by test es → test (slice_index_or es j d) ≡ true) × (test (slice_index_or es j d) ≡ true → j < count_by test es)

  module _ (e : Edge) (es : List Edge) (falls : Falls (e ∷ es)) (rest : (j : ℕ) → j < length es → Tells es j) where
    at_first : (j : ℕ) → j < suc (length es) → test e ≡ true → count_by test (e ∷ es) ≡ 1 + count_by test es → Tells (e ∷ es) j
    at_first zero k up more = ((λ _. up), (λ _. omega (arith, more)))
    at_first (suc j) k up more =
        let told : Tells es j = rest j (omega (arith, k)) in
        ((λ h. told.0 (omega (arith, h, more))), (λ h. let below = told.1 h in omega (arith, below, more)))

    none_later : test e ≡ false → (m : ℕ) → m < length es → test (slice_index_or es m d) ≡ true → ⊥
    none_later down m k up = true≢false (sym (falls 0 (suc m) (omega arith) (omega (arith, k)) up) ∙ down)

    none_counted : test e ≡ false → count_by test es ≡ 0
    none_counted down = by (cases_lt 0 (count_by test es))
      where
        by : (0 < count_by test es) ⊎ (count_by test es ≤ 0) → count_by test es ≡ 0
        by (inl some) =
            let long = count_by-le-length test es in
            let within : 0 < length es = omega (arith, some, long) in
            absurd (none_later down 0 within ((rest 0 within).0 some))
        by (inr none) = omega (arith, none)

    past_first : (j : ℕ) → j < suc (length es) → test e ≡ false → count_by test (e ∷ es) ≡ count_by test es → Tells (e ∷ es) j
    past_first zero k down same = let none = none_counted down in ((λ h. absurd (omega (arith, h, same, none))), (λ up. absurd (true≢false (sym up ∙ down))))
    past_first (suc j) k down same = let none = none_counted down in ((λ h. absurd (omega (arith, h, same, none))), (λ up. absurd (none_later down j (omega (arith, k)) up)))

    tells_more : (j : ℕ) → j < suc (length es) → Tells (e ∷ es) j
    tells_more j l = by (cases_Bool (test e))
      where
        by : (test e ≡ true) ⊎ (test e ≡ false) → Tells (e ∷ es) j
        by (inl up) = at_first j l up (sum_by-cons (λ x. cond (test x) 1 0) e es ∙ ap (λ b. cond b 1 0 + count_by test es) up)
        by (inr down) =
            let same : count_by test (e ∷ es) ≡ 0 + count_by test es = sum_by-cons (λ x. cond (test x) 1 0) e es ∙ ap (λ b. cond b 1 0 + count_by test es) down in
            past_first j l down (omega (arith, same))

  first_pass : (es : List Edge) → Falls es → (j : ℕ) → j < length es → Tells es j
  first_pass [] falls j l = absurd (omega (arith, l))
  first_pass (e ∷ es) falls j l = tells_more e es falls (first_pass es (λ m j h k up. falls (suc m) (suc j) (omega (arith, h)) (omega (arith, k)) up)) j l

every : (P : Edge → Type 0) → ((s : Edge) → P s) → (es : List Edge) → All P es
every P h [] = All-nil P
every P h (s ∷ es) = All-cons P s es (h s) (every P h es)

-- the number from which on all begin past the end of an edge
pub record ArePasts (es : List Edge) : Type 0 where
  pub within : (i : ℕ) → slice_index_or (reaches_of es) i 0 ≤ length es
  pub past : (i j : ℕ) (s t : Edge) → IsAt es i s → IsAt es j t → slice_index_or (reaches_of es) i 0 ≤ j → s.b.x <ℤ t.a.x
  pub near : (i j : ℕ) (s t : Edge) → IsAt es i s → IsAt es j t → j < slice_index_or (reaches_of es) i 0 → t.a.x ≤ℤ s.b.x

pub pasts_are : (es : List Edge) → AllPairs (λ s t. edge_order s t ≡ Less) es → ArePasts es
pasts_are es rising = record {
  within = λ i. bounded i (cases_lt i (length (reaches_of es)));
  past = λ i j s t at there h. apart s t (λ up. let less = (here s j t there).1 up in let reach = own i s at in omega (arith, h, less, reach));
  near = λ i j s t at there h. let reach = own i s at in (int_le_true t.a.x s.b.x ((here s j t there).0 (omega (arith, h, reach))));
}
  where
    all_within : All (λ r. r ≤ length es) (reaches_of es)
    all_within = All-map (λ r. r ≤ length es) (reach_of es) es (every (λ s. reach_of es s ≤ length es) (λ s. count_by-le-length (λ t. int_le t.a.x s.b.x) es) es)

    bounded : (i : ℕ) → (i < length (reaches_of es)) ⊎ (length (reaches_of es) ≤ i) → slice_index_or (reaches_of es) i 0 ≤ length es
    bounded i (inl l) = all_within i 0 l
    bounded i (inr l) = let h = get_or_past (reaches_of es) i 0 l in omega (arith, h)

    own : (i : ℕ) (s : Edge) → IsAt es i s → slice_index_or (reaches_of es) i 0 ≡ reach_of es s
    own i s at = get_or-map (reach_of es) es i s 0 at.0 ∙ ap (reach_of es) (sym at.1)

    int_le_true : (x y : ℤ) → int_le x y ≡ true → x ≤ℤ y
    int_le_true x y up = omega (arith, ints)

    true_int_le : (x y : ℤ) → x ≤ℤ y → int_le x y ≡ true
    true_int_le x y h = grind (arith, ints)

    apart : (s t : Edge) → (int_le t.a.x s.b.x ≡ true → ⊥) → s.b.x <ℤ t.a.x
    apart s t never = by (cases_Bool (int_le t.a.x s.b.x))
      where
        above : (x y : ℤ) → int_le x y ≡ false → y <ℤ x
        above x y down = omega (arith, ints)

        by : (int_le t.a.x s.b.x ≡ true) ⊎ (int_le t.a.x s.b.x ≡ false) → s.b.x <ℤ t.a.x
        by (inl up) = absurd (never up)
        by (inr down) = above t.a.x s.b.x down

    falls : (s d : Edge) (m j : ℕ) → m ≤ j → j < length es → int_le (slice_index_or es j d).a.x s.b.x ≡ true → int_le (slice_index_or es m d).a.x s.b.x ≡ true
    falls s d m j l within up =
        let u = slice_index_or es m d in
        let t = slice_index_or es j d in
        let first : m < length es = omega (arith, l, within) in
        true_int_le u.a.x s.b.x (starts_near es rising s.b.x j t (within, get_or_default es j d t within) (int_le_true t.a.x s.b.x up) m u l (first, get_or_default es m d u first))

    here : (s : Edge) (j : ℕ) (t : Edge) → IsAt es j t → (j < reach_of es s → int_le t.a.x s.b.x ≡ true) × (int_le t.a.x s.b.x ≡ true → j < reach_of es s)
    here s j t there =
        let is = first_pass (λ t. int_le t.a.x s.b.x) t es (falls s t) j there.0 in (
          (λ h. ap (λ t. int_le t.a.x s.b.x) there.1 ∙ is.0 h),
          (λ up. is.1 (sym (ap (λ t. int_le t.a.x s.b.x) there.1) ∙ up)),
        )

-- i' is i, and j stands in the row in a place from number first to number k
abbrev pub HeldTo : List ℕ → ℕ → ℕ → ℕ → ℕ → ℕ → ℕ → Type 0
HeldTo to row i first k i' j = (i' ≡ i) × ((q : ℕ) × (first ≤ q) × (q < k) × (slice_index_or to q 0 ≡ place_in row j))

-- one place more
pub held_more : (to : List ℕ) (row i first k n : ℕ) → place_in row n ≡ slice_index_or to k 0 → (i' j : ℕ) → HeldTo to row i first (k + 1) i' j → HeldTo to row i first k i' j ⊎ ((i' ≡ i) × (j ≡ n))
held_more to row i first k n here i' j (e, (q, l, m, is)) = by (cases_lt q k)
  where
    by : (q < k) ⊎ (k ≤ q) → HeldTo to row i first k i' j ⊎ ((i' ≡ i) × (j ≡ n))
    by (inl less) = inl (e, (q, l, less, is))
    by (inr more) = let same : q ≡ k = omega (arith, m, more) in let level : place_in row j ≡ place_in row n = sym is ∙ (ap (λ q. slice_index_or to q 0) same ∙ sym here) in inr (e, omega (arith, level))

module _ (to : List ℕ) (sorted : IsNonDecreasing to) where
  -- what follows a place that follows, follows
  pub all_after : (place k : ℕ) → k < length to → place < slice_index_or to k 0 → (m : ℕ) → k ≤ m → m < length to → place < slice_index_or to m 0
  all_after place k within h m l n = let rises = sorted k m 0 l n in omega (arith, h, rises)

  pub all_from : (place k : ℕ) → place ≤ slice_index_or to k 0 → (m : ℕ) → k ≤ m → m < length to → place ≤ slice_index_or to m 0
  all_from place k h m l n = let rises = sorted k m 0 l n in omega (arith, h, rises)

  -- the places in the row that follow were met before number k, where it stands past the reach
  pub met_before : (row i reach first k : ℕ) → IsFirstAfter to (place_in row i) first → ((m : ℕ) → k ≤ m → m < length to → place_in row reach ≤ slice_index_or to m 0)
      → (j : ℕ) → i < j → j < reach → Contains to (place_in row j) → (q : ℕ) × (first ≤ q) × (q < k) × (slice_index_or to q 0 ≡ place_in row j)
  met_before row i reach first k at past j after before (q, within, is) =
      let there : slice_index_or to q 0 ≡ place_in row j = get_or_default to q 0 (place_in row j) within ∙ is in
      (q, from there (cases_lt q first), upto there (cases_lt q k), there)
    where
      from : slice_index_or to q 0 ≡ place_in row j → (q < first) ⊎ (first ≤ q) → first ≤ q
      from there (inl l) = let h = at.before q l in absurd (omega (arith, h, there, after))
      from there (inr l) = l

      upto : slice_index_or to q 0 ≡ place_in row j → (q < k) ⊎ (k ≤ q) → q < k
      upto there (inl l) = l
      upto there (inr l) = let h = past q l within in absurd (omega (arith, h, there, before))

-- j follows i in a row, where i stands in a place before number k
abbrev pub FollowsTo : List ℕ → List ℕ → List ℕ → ℕ → ℕ → ℕ → Type 0
FollowsTo reaches from to k i j =
    (i < j) × (j < slice_index_or reaches i 0) × ((r : ℕ) × ((q : ℕ) × (q < k) × (slice_index_or from q 0 ≡ place_in r i)) × Contains to (place_in r j))

module _ (reaches from to : List ℕ) where
  pub follows_none : (i j : ℕ) → FollowsTo reaches from to 0 i j → ⊥
  follows_none i j (l, m, (r, (q, n, is), there)) = omega (arith, n)

  pub follows_all : (k : ℕ) → length from ≤ k → (i j : ℕ) → Follows reaches from to i j → FollowsTo reaches from to k i j
  follows_all k end i j (l, m, (r, (q, n, is), there)) = (l, m, (r, (q, omega (arith, n, end), get_or_default from q 0 (place_in r i) n ∙ is), there))

  -- one place more
  pub follows_more : (es : List Edge) → length es < 4294967296 → AreReaches es reaches → (k row i : ℕ) → i < 4294967296 → place_in row i ≡ slice_index_or from k 0 → (i' j : ℕ) → FollowsTo reaches from to (k + 1) i' j
      → FollowsTo reaches from to k i' j ⊎ FollowsIn to row (slice_index_or reaches i 0) i i' j
  follows_more es few far k row i small here i' j (l, m, (r, (q, n, is), there)) = by (cases_lt q k)
    where
      bounded : i' < 4294967296
      bounded = let h = reach_few es reaches few far i' in omega (arith, l, m, h)

      by : (q < k) ⊎ (k ≤ q) → FollowsTo reaches from to k i' j ⊎ FollowsIn to row (slice_index_or reaches i 0) i i' j
      by (inl less) = inl (l, m, (r, (q, less, is), there))
      by (inr more) =
          let same : q ≡ k = omega (arith, n, more) in
          let level : place_in r i' ≡ place_in row i = sym is ∙ (ap (λ q. slice_index_or from q 0) same ∙ sym here) in
          let parts = same_place r row i' i bounded small level in
          inr (parts.1, subst (λ n. n < j) parts.1 l, subst (λ n. j < slice_index_or reaches n 0) parts.1 m, subst (λ n. Contains to (place_in n j)) parts.0 there)

-- ---- how places come

-- the segment i passes the rows after low before this one, so far as they are near
pub record PassesTo (near : ℕ → Type 0) (i low row : ℕ) (old new : List ℕ) : Type 0 where
  pub pass : (r : ℕ) → low < r → r < row → near r → Contains new (place_in r i)
  pub stay : (p : ℕ) → Contains old p → Contains new p
  pub numbered : (n : ℕ) → i < n → ArePlaces n old → ArePlaces n new
  pub are : AddsPart (places_from (low + 1) (row - (low + 1)) i) old new

pub passes_none : (near : ℕ → Type 0) (i low row : ℕ) → row ≤ low + 1 → (places : List ℕ) → PassesTo near i low row places places
passes_none near i low row h places = record {
  are = adds_none (places_from (low + 1) (row - (low + 1)) i) places;
  pass = λ r l m. absurd (omega (arith, h, l, m));
  stay = λ p c. c;
  numbered = λ n l all. all;
}

one_place : (row i n : ℕ) → row < 2147483648 → i < 4294967296 → i < n → IsNumbered n (place_in row i)
one_place row i n small few h = (omega (arith, small, few), omega (arith, place_number row i few, h))

-- what one place more leaves
module _ (near : Type 0) (row i : ℕ) (small : row < 2147483648) (few : i < 4294967296) (now new : List ℕ) where
  near_stays : AddsNear near (place_in row i) now new → (p : ℕ) → Contains now p → Contains new p
  near_stays (inl (e, far)) p c = subst (λ ps. Contains ps p) (sym e) c
  near_stays (inr e) p c = subst (λ ps. Contains ps p) (sym e) (Contains-append_left now (place_in row i ∷ []) p c)

  near_there : AddsNear near (place_in row i) now new → near → Contains new (place_in row i)
  near_there (inl (e, far)) h = absurd (far h)
  near_there (inr e) h = subst (λ ps. Contains ps (place_in row i)) (sym e) (Contains-append_right now (place_in row i ∷ []) (place_in row i) (0, omega arith, refl))

  near_numbered : AddsNear near (place_in row i) now new → (n : ℕ) → i < n → ArePlaces n now → ArePlaces n new
  near_numbered (inl (e, far)) n l all = subst (ArePlaces n) (sym e) all
  near_numbered (inr e) n l all = subst (ArePlaces n) (sym e) (All-append (IsNumbered n) now (place_in row i ∷ []) all (All-cons (IsNumbered n) (place_in row i) [] (one_place row i n small few l) (All-nil (IsNumbered n))))

pub passes_more : (near : ℕ → Type 0) (i low row : ℕ) → low + 1 ≤ row → row < 2147483648 → i < 4294967296 → (old now new : List ℕ) → AddsNear (near row) (place_in row i) now new → PassesTo near i low row old now → PassesTo near i low (row + 1) old new
passes_more near i low row above small few old now new adds h = record {
  are =
      let next : row - (low + 1) + 1 ≡ row + 1 - (low + 1) = omega (arith, above) in
      let last : places_from (low + 1) (row - (low + 1) + 1) i ≡ places_from (low + 1) (row - (low + 1)) i ++ place_in row i ∷ [] = map-range_with_len_more (λ r. place_in r i) (low + 1) (row - (low + 1)) row (omega (arith, above)) in
      subst (λ n. AddsPart (places_from (low + 1) n i) old new) next (subst (λ ps. AddsPart ps old new) (sym last) (adds_both (places_from (low + 1) (row - (low + 1)) i) (place_in row i ∷ []) old now new h.are (adds_near (near row) (place_in row i) now new adds)));
  pass = λ r l m. by r l m (cases_lt r row);
  stay = λ p c. near_stays (near row) row i small few now new adds p (h.stay p c);
  numbered = λ n l all. near_numbered (near row) row i small few now new adds n l (h.numbered n l all);
}
  where
    by : (r : ℕ) → low < r → r < row + 1 → (r < row) ⊎ (row ≤ r) → near r → Contains new (place_in r i)
    by r l m (inl n) close = near_stays (near row) row i small few now new adds (place_in r i) (h.pass r l n close)
    by r l m (inr n) close =
        let same : row ≡ r = omega (arith, m, n) in
        subst (λ r. Contains new (place_in r i)) same (near_there (near row) row i small few now new adds (subst near (sym same) close))

-- the segment came to its lowest row too
pub comes : (near : ℕ → Type 0) (i low high row : ℕ) → low < 2147483648 → i < 4294967296 → high < row → row - (low + 1) ≡ high - low → (begins passes more_begins more_passes : List ℕ) → AddsNear (near low) (place_in low i) begins more_begins → PassesTo near i low row passes more_passes
    → ComesTo near i low high begins passes more_begins more_passes
comes near i low high row small few end many begins passes more_begins more_passes adds h = record {
  begins_are = adds_near (near low) (place_in low i) begins more_begins adds;
  passes_are = subst (λ n. AddsPart (places_from (low + 1) n i) passes more_passes) many h.are;
  begin = near_there (near low) low i small few begins more_begins adds;
  pass = λ r l m. h.pass r l (omega (arith, m, end));
  begins_stay = near_stays (near low) low i small few begins more_begins adds;
  passes_stay = h.stay;
  begins_numbered = near_numbered (near low) low i small few begins more_begins adds;
  passes_numbered = h.numbered;
}

pub rows_sorted : (n : ℕ) (begins passes more_begins more_passes : List ℕ) → IsPermutation begins more_begins → IsPermutation passes more_passes → IsNonDecreasing more_begins → IsNonDecreasing more_passes → ArePlaces n begins → ArePlaces n passes → AreRows n more_begins more_passes
rows_sorted n begins passes more_begins more_passes e f up rises own other = record {
  begins_numbered = All-permutation (IsNumbered n) begins more_begins e own;
  passes_numbered = All-permutation (IsNumbered n) passes more_passes f other;
  begins_sorted = up;
  passes_sorted = rises;
}

-- ---- which pairs meet in rows

module _ (stride first last : ℤ) (rounding : Rounding) (es : List Edge) (rising : AllPairs (λ s t. edge_order s t ≡ Less) es) (ahead : All (λ s. is_before s.a s.b ≡ true) es) (least : ℤ) (width : ℕ) (wide : 0 < width) (reaches : List ℕ) (far : AreReaches es reaches) where
  directed : (i : ℕ) (s : Edge) → IsAt es i s → is_before s.a s.b ≡ true
  directed i s at = All-contains (λ s. is_before s.a s.b ≡ true) es s ahead (at_contains es i s at)

  rows_apart : (s t : Edge) → highest_row least width s < lowest_row least width t → int_min t.a.y t.b.y ≤ℤ int_max s.a.y s.b.y → ⊥
  rows_apart s t h meet =
      let rises = row_rises least width wide (int_min t.a.y t.b.y) (int_max s.a.y s.b.y) meet in
      omega (arith, h, rises)

  -- the row is one of the segment's
  abbrev Reached : Edge → ℕ → Type 0
  Reached s r = (lowest_row least width s ≤ r) × (r ≤ highest_row least width s)

  rows_ordered : (s : Edge) → lowest_row least width s ≤ highest_row least width s
  rows_ordered s = row_rises least width wide (int_min s.a.y s.b.y) (int_max s.a.y s.b.y) (min_to_max s.a.y s.b.y)

  -- two segments that share a row, or lay nothing
  module _ (i j : ℕ) (s t : Edge) (before : i < j) (at : IsAt es i s) (there : IsAt es j t) where
    met_in_rows : (begins passes to_begins to_passes : List ℕ) → (j < slice_index_or reaches i 0 → IsPlaced (Reached t) least width begins passes i s) → (j < slice_index_or reaches i 0 → IsPlaced (Reached s) least width to_begins to_passes j t)
        → FollowsInRows reaches begins passes to_begins to_passes i j ⊎ (marks_by rounding s t ≡ no_marks)
    met_in_rows begins passes to_begins to_passes own other = by (cases_lt j (slice_index_or reaches i 0))
      where
        level : j < slice_index_or reaches i 0 → lowest_row least width s ≡ lowest_row least width t → FollowsInRows reaches begins passes to_begins to_passes i j
        level near e =
            let first = rows_ordered s in
            let second = rows_ordered t in
            inl (inl (
              before,
              near,
              (
                lowest_row least width s,
                (own near).begin (omega (arith, e), omega (arith, e, second)),
                subst (λ r. Contains to_begins (place_in r j)) (sym e) ((other near).begin (omega (arith, e), omega (arith, e, first))),
              ),
            ))

        own_passes : j < slice_index_or reaches i 0 → lowest_row least width s < lowest_row least width t → (highest_row least width s < lowest_row least width t) ⊎ (lowest_row least width t ≤ highest_row least width s)
            → FollowsInRows reaches begins passes to_begins to_passes i j ⊎ (marks_by rounding s t ≡ no_marks)
        own_passes near l (inl apart) = inr (unmarked_apart rounding s t (λ meet. rows_apart s t apart meet.top))
        own_passes near l (inr m) =
            let last = rows_ordered t in
            inl (inr (before, near, (lowest_row least width t, (own near).pass (lowest_row least width t) l m (omega arith, last), (other near).begin (omega (arith, l), m))))

        other_passes : j < slice_index_or reaches i 0 → lowest_row least width t < lowest_row least width s → (highest_row least width t < lowest_row least width s) ⊎ (lowest_row least width s ≤ highest_row least width t)
            → FollowsInRows reaches begins passes to_begins to_passes i j ⊎ (marks_by rounding s t ≡ no_marks)
        other_passes near l (inl apart) = inr (unmarked_apart rounding s t (λ meet. rows_apart t s apart meet.bottom))
        other_passes near l (inr m) =
            let last = rows_ordered s in
            inl (inl (inr (before, near, (lowest_row least width s, (own near).begin (omega (arith, l), m), (other near).pass (lowest_row least width s) l m (omega arith, last)))))

        near_by : j < slice_index_or reaches i 0 → (lowest_row least width s ≡ lowest_row least width t) ⊎ ((lowest_row least width s < lowest_row least width t) ⊎ (lowest_row least width t < lowest_row least width s))
            → FollowsInRows reaches begins passes to_begins to_passes i j ⊎ (marks_by rounding s t ≡ no_marks)
        near_by near (inl e) = inl (level near e)
        near_by near (inr (inl l)) = own_passes near l (cases_lt (highest_row least width s) (lowest_row least width t))
        near_by near (inr (inr l)) = other_passes near l (cases_lt (highest_row least width t) (lowest_row least width s))

        by : (j < slice_index_or reaches i 0) ⊎ (slice_index_or reaches i 0 ≤ j) → FollowsInRows reaches begins passes to_begins to_passes i j ⊎ (marks_by rounding s t ≡ no_marks)
        by (inl near) = near_by near (cases_order (lowest_row least width s) (lowest_row least width t))
        by (inr past) = inr (onward (far.past i j s t at there past))
          where
            onward : LiesOnward s t → marks_by rounding s t ≡ no_marks
            onward (inl apart) = unmarked_past rounding s t (directed i s at) (directed j t there) apart
            onward (inr (meet, wide, on)) = (unless_parted rounding s t).1 (onward_parted s t wide on meet)

  nearer : (near other : ℕ → Type 0) → ((r : ℕ) → near r → other r) → (begins passes : List ℕ) (i : ℕ) (s : Edge) → IsPlaced other least width begins passes i s → IsPlaced near least width begins passes i s
  nearer near other fewer begins passes i s h = record {
    begin = λ n. h.begin (fewer (lowest_row least width s) n);
    pass = λ r l m n. h.pass r l m (fewer r n);
  }

  -- two of which one is new at least
  module _ (next_new : List ℕ) (begins passes old_begins old_passes : List ℕ) (placed : ArePlaced least width es next_new (length es) begins passes old_begins old_passes) where
    fresh : (i : ℕ) (s : Edge) → IsAt es i s → is_old next_new i ≡ false → (t : Edge) → IsPlaced (Reached t) least width begins passes i s
    fresh i s at new t = nearer (Reached t) (λ r. ⊤) (λ r h. tt) begins passes i s (placed.fresh.placed i s at.0 at (ap not new))

    module _ (i j : ℕ) (s t : Edge) (before : i < j) (at : IsAt es i s) (there : IsAt es j t) where
      through_x : (x y z : ℤ) → x ≤ℤ y → y ≤ℤ z → x ≤ℤ z
      through_x x y z a b = omega (arith, ints)

      right : j < slice_index_or reaches i 0 → t.a.x ≤ℤ s.b.x
      right near = far.near i j s t at there near

      left : s.a.x ≤ℤ t.b.x
      left = through_x s.a.x t.a.x t.b.x (starts_near es rising t.a.x j t there (same_x t.a.x) i s (omega (arith, before)) at) (forward_x t (directed j t there))
        where
          same_x : (x : ℤ) → x ≤ℤ x
          same_x x = omega (arith, ints)

      old_first : is_old next_new i ≡ true → is_old next_new j ≡ false → j < slice_index_or reaches i 0 → IsPlaced (Reached t) least width old_begins old_passes i s
      old_first old new near =
          nearer (Reached t) (MeetsNew least width es next_new s) (λ r h. record { number = j; edge = t; at = there; new = new; low = h.0; high = h.1; left = right near; right = left }) old_begins old_passes i s
          (placed.old.placed i s at.0 at old)

      old_second : is_old next_new i ≡ false → is_old next_new j ≡ true → j < slice_index_or reaches i 0 → IsPlaced (Reached s) least width old_begins old_passes j t
      old_second new old near =
          nearer (Reached s) (MeetsNew least width es next_new t) (λ r h. record { number = i; edge = s; at = at; new = new; low = h.0; high = h.1; left = left; right = right near }) old_begins old_passes j t
          (placed.old.placed j t there.0 there old)

      pub both_new : is_old next_new i ≡ false → is_old next_new j ≡ false → FollowsInRows reaches begins passes begins passes i j ⊎ (marks_by rounding s t ≡ no_marks)
      both_new own other = met_in_rows i j s t before at there begins passes begins passes (λ _. fresh i s at own t) (λ _. fresh j t there other s)

      new_and_old : is_old next_new i ≡ false → is_old next_new j ≡ true → FollowsInRows reaches begins passes old_begins old_passes i j ⊎ (marks_by rounding s t ≡ no_marks)
      new_and_old own other = met_in_rows i j s t before at there begins passes old_begins old_passes (λ _. fresh i s at own t) (old_second own other)

      old_and_new : is_old next_new i ≡ true → is_old next_new j ≡ false → FollowsInRows reaches old_begins old_passes begins passes i j ⊎ (marks_by rounding s t ≡ no_marks)
      old_and_new own other = met_in_rows i j s t before at there old_begins old_passes begins passes (old_first own other) (λ _. fresh j t there other s)

      -- one of the two is new, and the other old
      pub kinds_met : is_old next_new i ≡ not (is_old next_new j) → FollowsBetween reaches begins passes old_begins old_passes i j ⊎ (marks_by rounding s t ≡ no_marks)
      kinds_met differ = by (is_old next_new i) (is_old next_new j) refl refl differ
        where
          by : (a b : Bool) → is_old next_new i ≡ a → is_old next_new j ≡ b → a ≡ not b → FollowsBetween reaches begins passes old_begins old_passes i j ⊎ (marks_by rounding s t ≡ no_marks)
          by false true own other e = ⊎_elim (λ h. inl (inl h)) inr (new_and_old own other)
          by true false own other e = ⊎_elim (λ h. inl (inr h)) inr (old_and_new own other)
          by true true own other e = absurd (cc)
          by false false own other e = absurd (cc)

      pub new_pairs_met : (is_old next_new i && is_old next_new j) ≡ false → FollowsAmong reaches begins passes old_begins old_passes i j ⊎ (marks_by rounding s t ≡ no_marks)
      new_pairs_met new = by (is_old next_new i) (is_old next_new j) refl refl new
        where
          by : (a b : Bool) → is_old next_new i ≡ a → is_old next_new j ≡ b → (a && b) ≡ false → FollowsAmong reaches begins passes old_begins old_passes i j ⊎ (marks_by rounding s t ≡ no_marks)
          by false false own other e = ⊎_elim (λ h. inl (inl (inl h))) inr (both_new own other)
          by false true own other e = ⊎_elim (λ h. inl (inl (inr h))) inr (new_and_old own other)
          by true false own other e = ⊎_elim (λ h. inl (inr h)) inr (old_and_new own other)
          by true true own other e = absurd (cc)

-- two of which none is new lay nothing, where old ones are parted
module _ (stride first last : ℤ) (rounding : Rounding) (es : List Edge) (rising : AllPairs (λ s t. edge_order s t ≡ Less) es) where
  pub new_or_parted : (next_new : List ℕ) → SkipsOld es next_new → (i j : ℕ) (s t : Edge) → i < j → IsAt es i s → IsAt es j t → IsNewPair next_new i j ⊎ (marks_by rounding s t ≡ no_marks)
  new_or_parted next_new skips i j s t before at there = by (is_old next_new i) (is_old next_new j) refl refl
    where
      by : (a b : Bool) → is_old next_new i ≡ a → is_old next_new j ≡ b → IsNewPair next_new i j ⊎ (marks_by rounding s t ≡ no_marks)
      by true true own other =
          inr (old_none stride first last rounding es rising next_new skips i s at (ltb-true i (slice_index_or next_new i i) own) j j t (omega arith) (ltb-true j (slice_index_or next_new j j) other) there)
      by false b own other = inl (before, ap (λ a. a && is_old next_new j) own)
      by true false own other = inl (before, ap₂ (λ a b. a && b) own other)
