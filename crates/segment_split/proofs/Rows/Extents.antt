-- How far new segments extend in rows.
use Rattle.std.specs.Prelude.{◌≡◌, ◌≢◌, ◌==◌, ◌⊎◌, ℕ, ◌+◌, ◌<◌, ◌≤◌, ℤ, ◌≤ℤ◌, ◌<ℤ◌, List, [], ◌∷◌, ◌++◌, length, slice_index_or, pos, true, false}
use Rattle.std.proofs.Common.{sym, ap, ◌∙◌, subst, inl, inr, arith}
use Rattle.std.proofs.Math.ListN.{set}
use Rattle.std.proofs.lemmas.Int.{ints}
use Rattle.std.proofs.lemmas.Bool.{cases_lt, cases_eq, ltb-true, true≢false}
use Rattle.std.proofs.lemmas.List.{get_or_past, get_or_append_left, get_or-set_same, get_or-set_other, length-set, length-append}
use Rattle.plane_base.specs.Plane.{Edge}
use Rattle.segment_split.specs.MarkLists.{IsAt}
use Rattle.segment_split.specs.Rows.{lowest_row, highest_row, is_old, extent_at, Covers, IsNear, AreExtentsTo, MeetsNew}
use Rattle.segment_split.specs.declared.pairs.rows.extents.Extent.{Extent}
use Rattle.segment_split.proofs.Passes.MarkLists.{at_same}

pub level : (x : ℤ) → x ≤ℤ x
level x = omega (arith, ints)

through : (x y z : ℤ) → x ≤ℤ y → y ≤ℤ z → x ≤ℤ z
through x y z a b = omega (arith, ints)

-- a row more
pub covers_pushed : (now more : List Extent) (e : Extent) → more ≡ now ++ e ∷ [] → (r : ℕ) (a b : ℤ) → Covers now r a b → Covers more r a b
covers_pushed now more e is r a b (within, left, right) =
    let here : extent_at more r ≡ extent_at now r = ap (λ l. extent_at l r) is ∙ get_or_append_left now (e ∷ []) (record { left = pos 0; right = pos 0 }) r within in
    let long : length more ≡ length now + 1 = ap length is ∙ length-append now (e ∷ []) in (
      omega (arith, within, long),
      subst (λ x. x.left ≤ℤ a) (sym here) left,
      subst (λ x. b ≤ℤ x.right) (sym here) right,
    )

-- a row extended
module _ (now : List Extent) (row : ℕ) (e : Extent) (within : row < length now) (left : e.left ≤ℤ (extent_at now row).left) (right : (extent_at now row).right ≤ℤ e.right) where
  abbrev more : List Extent
  more = set now row e

  long : length more ≡ length now
  long = length-set now row e

  own : extent_at more row ≡ e
  own = get_or-set_same now row e (record { left = pos 0; right = pos 0 }) within

  pub covers_own : (a b : ℤ) → e.left ≤ℤ a → b ≤ℤ e.right → Covers more row a b
  covers_own a b h k = (omega (arith, within, long), subst (λ x. x.left ≤ℤ a) (sym own) h, subst (λ x. b ≤ℤ x.right) (sym own) k)

  pub covers_kept : (r : ℕ) (a b : ℤ) → Covers now r a b → Covers more r a b
  covers_kept r a b h = by (cases_eq r row)
    where
      by : (r ≡ row) ⊎ (r ≢ row) → Covers more r a b
      by (inl same) =
          let here : Covers now row a b = subst (λ n. Covers now n a b) same h in
          subst (λ n. Covers more n a b) (sym same) (covers_own a b (through e.left (extent_at now row).left a left here.1) (through b (extent_at now row).right e.right here.2 right))
      by (inr apart) =
          let here : extent_at more r ≡ extent_at now r = get_or-set_other now row r e (record { left = pos 0; right = pos 0 }) apart in
          (omega (arith, h.0, long), subst (λ x. x.left ≤ℤ a) (sym here) h.1, subst (λ x. b ≤ℤ x.right) (sym here) h.2)

  pub covers_more : (low : ℕ) (a b : ℤ) → e.left ≤ℤ a → b ≤ℤ e.right → ((r : ℕ) → low ≤ r → r < row → Covers now r a b) → (r : ℕ) → low ≤ r → r < row + 1 → Covers more r a b
  covers_more low a b h k before r l m = by (cases_lt r row)
    where
      by : (r < row) ⊎ (row ≤ r) → Covers more r a b
      by (inl less) = covers_kept r a b (before r l less)
      by (inr last) = let same : row ≡ r = omega (arith, m, last) in subst (λ n. Covers more n a b) same (covers_own a b h k)

-- ---- segment by segment

module _ (least : ℤ) (width : ℕ) (es : List Edge) (next_new : List ℕ) (i : ℕ) (extents : List Extent) (h : AreExtentsTo least width es next_new i extents) where
  pub extents_stay : is_old next_new i ≡ true → AreExtentsTo least width es next_new (i + 1) extents
  extents_stay old n t l there new = by (cases_lt n i)
    where
      by : (n < i) ⊎ (i ≤ n) → (r : ℕ) → lowest_row least width t ≤ r → r ≤ highest_row least width t → Covers extents r t.a.x t.b.x
      by (inl less) = h n t less there new
      by (inr last) = let same : n ≡ i = omega (arith, l, last) in absurd (true≢false (sym old ∙ (ap (is_old next_new) (sym same) ∙ new)))

  pub extents_more : (s : Edge) → IsAt es i s → (low high : ℕ) → low ≡ lowest_row least width s → high ≡ highest_row least width s → (left right : ℤ) → left ≡ s.a.x → right ≡ s.b.x → (more : List Extent)
      → ((r : ℕ) → low ≤ r → r ≤ high → Covers more r left right) → ((r : ℕ) (a b : ℤ) → Covers extents r a b → Covers more r a b) → AreExtentsTo least width es next_new (i + 1) more
  extents_more s at low high e f left right a b more own keeps n t l there new r from upto = by (cases_lt n i)
    where
      by : (n < i) ⊎ (i ≤ n) → Covers more r t.a.x t.b.x
      by (inl less) = keeps r t.a.x t.b.x (h n t less there new r from upto)
      by (inr last) =
          let same : n ≡ i = omega (arith, l, last) in
          let is : s ≡ t = at_same es i s t at (subst (λ k. IsAt es k t) same there) in
          let first : low ≤ r = subst (λ k. k ≤ r) (sym (e ∙ ap (lowest_row least width) is)) from in
          let end : r ≤ high = subst (λ k. r ≤ k) (sym (f ∙ ap (highest_row least width) is)) upto in
          subst (λ u. Covers more r u.a.x u.b.x) is (subst (λ x. Covers more r x s.b.x) a (subst (λ y. Covers more r left y) b (own r first end)))

-- where a new segment is met, what extends in the row is near
pub near_met : (least : ℤ) (width : ℕ) (es : List Edge) (next_new : List ℕ) (n : ℕ) → n ≡ length es → (extents : List Extent) → AreExtentsTo least width es next_new n extents → (t : Edge) (r : ℕ) → MeetsNew least width es next_new t r → IsNear extents t.a.x t.b.x r
near_met least width es next_new n end extents h t r met =
    let covers = h met.number met.edge (subst (λ k. met.number < k) (sym end) met.at.0) met.at met.new r met.low met.high in
    (covers.0, through (extent_at extents r).left met.edge.a.x t.b.x covers.1 met.left, through t.a.x met.edge.b.x (extent_at extents r).right met.right covers.2)

-- ---- how far new segments before i reach

abbrev pub ReachUpTo : List Edge → List ℕ → ℕ → ℤ → Type 0
ReachUpTo es next_new i reached = (j : ℕ) (t : Edge) → j < i → IsAt es j t → is_old next_new j ≡ false → t.b.x ≤ℤ reached

-- these numbers up to the other are of old ones
abbrev pub AreOld : List ℕ → ℕ → ℕ → Type 0
AreOld next_new from to = (j : ℕ) → from ≤ j → j < to → is_old next_new j ≡ true

pub old_more : (next_new : List ℕ) (from i : ℕ) → AreOld next_new from i → is_old next_new i ≡ true → AreOld next_new from (i + 1)
old_more next_new from i h here j l m = by (cases_lt j i)
  where
    by : (j < i) ⊎ (i ≤ j) → is_old next_new j ≡ true
    by (inl less) = h j l less
    by (inr last) = let same : j ≡ i = omega (arith, m, last) in ap (is_old next_new) same ∙ here

module _ (es : List Edge) (next_new : List ℕ) (i : ℕ) (reached : ℤ) (h : ReachUpTo es next_new i reached) where
  pub reach_more : (more : ℤ) → reached ≤ℤ more → ((s : Edge) → IsAt es i s → is_old next_new i ≡ false → s.b.x ≤ℤ more) → ReachUpTo es next_new (i + 1) more
  reach_more more up here j t l at new = by (cases_lt j i)
    where
      by : (j < i) ⊎ (i ≤ j) → t.b.x ≤ℤ more
      by (inl less) = through t.b.x reached more (h j t less at new) up
      by (inr last) = let same : j ≡ i = omega (arith, l, last) in here t (subst (λ k. IsAt es k t) same at) (sym (ap (is_old next_new) same) ∙ new)

  -- what begins past that, and ends before what follows the old ones begins, meets no new one
  pub none_met : (least : ℤ) (width next : ℕ) → AreOld next_new i next → (t : Edge) → reached <ℤ t.a.x → ((j : ℕ) (u : Edge) → next ≤ j → IsAt es j u → t.b.x <ℤ u.a.x) → (r : ℕ) → MeetsNew least width es next_new t r → ⊥
  none_met least width next old t before after r met = by (cases_lt met.number i)
    where
      clash : (x y z : ℤ) → x ≤ℤ y → y ≤ℤ z → z <ℤ x → ⊥
      clash x y z a b c = omega (arith, ints)

      ahead : i ≤ met.number → (met.number < next) ⊎ (next ≤ met.number) → ⊥
      ahead l (inl less) = true≢false (sym (old met.number l less) ∙ met.new)
      ahead l (inr past) = clash met.edge.a.x t.b.x t.b.x met.left (level t.b.x) (after met.number met.edge past met.at)

      by : (met.number < i) ⊎ (i ≤ met.number) → ⊥
      by (inl less) = clash t.a.x met.edge.b.x reached met.right (h met.number met.edge less met.at met.new) before
      by (inr l) = ahead l (cases_lt met.number next)

pub is_zero : (n : ℕ) → (n == 0) ≡ true → n ≡ 0
is_zero n e = grind arith

-- where nothing is told, all are new
pub none_old : (next_new : List ℕ) → length next_new ≡ 0 → (i : ℕ) → is_old next_new i ≡ true → ⊥
none_old next_new none i old =
    let less : i < slice_index_or next_new i i = ltb-true i (slice_index_or next_new i i) old in
    let past : slice_index_or next_new i i ≡ i = get_or_past next_new i i (omega (arith, none)) in
    omega (arith, less, past)
