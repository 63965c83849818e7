-- The buckets of a tree are those of the bound.
use Rattle.std.specs.Prelude.{◌≡◌, ◌⊎◌, ℕ, zero, suc, ◌*◌, ◌/◌, ◌^◌, ◌<◌, ◌≤◌, ℤ, pos, negsuc, ◌+ℤ◌, ◌≤ℤ◌, ◌<ℤ◌, Bool, true, false, cond, nat_le, List, [], ◌∷◌, map, fold, All}
use Rattle.std.specs.Int.{int_min, int_max}
use Rattle.std.proofs.Common.{refl, sym, ap, ◌∙◌, subst, inl, inr, arith}
use Rattle.std.proofs.Math.Pow.{pow-lt}
use Rattle.std.proofs.Math.Nat.{div-lt_iff_lt-mul}
use Rattle.std.proofs.lemmas.Int.{ints}
use Rattle.std.proofs.lemmas.Bool.{cases_lt}
use Rattle.std.proofs.lemmas.List.Elements.{All-head}
use Rattle.i_tree.specs.Bag.{Bag, empty_bag}
use Rattle.i_tree.specs.Layout.{Buckets, IsWidth, AreBuckets, offset_of}
use Rattle.plane_base.specs.Plane.{Edge}
use Rattle.segment_split.specs.StepBounds.{Values, y_range, width_up_to, all_values, span_of, buckets_over, has_layout}
use Rattle.segment_split.specs.BucketTrees.{y_buckets}
use Rattle.segment_split.proofs.Passes.Columns.{LiesAmong, width_fits, all_among}
use Rattle.segment_split.proofs.Rows.Layouts.{InRange, least_measured, greatest_measured, min_to_max}

through : (a b c : ℕ) → a ≤ b → b ≤ c → a ≤ c
through a b c h k = omega (arith, h, k)

-- a bucket's width is a power of two
width_power : (span k : ℕ) → (m : ℕ) × (width_up_to span k ≡ 2 ^ m)
width_power span zero = (0, refl)
width_power span (suc k) = by (nat_le (span / width_up_to span k) 31) (width_power span k)
  where
    by : (b : Bool) → (m : ℕ) × (width_up_to span k ≡ 2 ^ m) → (m : ℕ) × (cond b (width_up_to span k) (2 * width_up_to span k) ≡ 2 ^ m)
    by true h = h
    by false (m, e) = (suc m, omega (arith, e))

-- a wider bucket fits no worse
fits_wider : (span v w : ℕ) → 0 < v → v ≤ w → span / v ≤ 31 → span / w ≤ 31
fits_wider span v w some wide fits =
    let less : span < 32 * v = (div-lt_iff_lt-mul {x = span} {y = 32} some).0 (omega (arith, fits)) in
    let below : span / w < 32 = (div-lt_iff_lt-mul {x = span} {y = 32} (omega (arith, some, wide))).1 (omega (arith, less, wide)) in
    omega (arith, below)

power_positive : (k : ℕ) → 0 < 2 ^ k
power_positive zero = omega arith
power_positive (suc k) = let h = power_positive k in omega (arith, h)

-- no power of two that fits is less
least_width : (span n k : ℕ) → span / 2 ^ k ≤ 31 → width_up_to span n ≤ 2 ^ k
least_width span zero k fits = let some = power_positive k in omega (arith, some)
least_width span (suc n) k fits = by (nat_le (span / width_up_to span n) 31) refl (least_width span n k fits)
  where
    wider : nat_le (span / width_up_to span n) 31 ≡ false → 2 ^ k ≤ width_up_to span n → ⊥
    wider down l =
        let room = fits_wider span (2 ^ k) (width_up_to span n) (power_positive k) l fits in
        let up : nat_le (span / width_up_to span n) 31 ≡ true = grind arith in
        let clash : true ≡ false = sym up ∙ down in
        absurd (cc)

    doubled : (m : ℕ) → width_up_to span n ≡ 2 ^ m → nat_le (span / width_up_to span n) 31 ≡ false → 2 * width_up_to span n ≤ 2 ^ k
    doubled m e down = at (cases_lt m k)
      where
        at : (m < k) ⊎ (k ≤ m) → 2 * width_up_to span n ≤ 2 ^ k
        at (inl less) = next (cases_lt (suc m) k)
          where
            next : (suc m < k) ⊎ (k ≤ suc m) → 2 * width_up_to span n ≤ 2 ^ k
            next (inl l) = let rises : 2 ^ suc m < 2 ^ k = pow-lt l in omega (arith, rises, e)
            next (inr l) = let same : k ≡ suc m = omega (arith, less, l) in let is = ap (λ i. 2 ^ i) same in omega (arith, is, e)
        at (inr more) = absurd (wider down (level (cases_lt k m)))
          where
            level : (k < m) ⊎ (m ≤ k) → 2 ^ k ≤ width_up_to span n
            level (inl l) = let rises : 2 ^ k < 2 ^ m = pow-lt l in omega (arith, rises, e)
            level (inr l) = let same : k ≡ m = omega (arith, more, l) in let is = ap (λ i. 2 ^ i) same in omega (arith, is, e)

    by : (b : Bool) → nat_le (span / width_up_to span n) 31 ≡ b → width_up_to span n ≤ 2 ^ k → cond b (width_up_to span n) (2 * width_up_to span n) ≤ 2 ^ k
    by true up h = h
    by false down h = doubled (width_power span n).0 (width_power span n).1 down

pub width_is : (span width : ℕ) → IsWidth span width → width ≡ width_up_to span span
width_is span width h =
    let own = h.least (width_power span span).0 (subst (λ w. span / w ≤ 31) (width_power span span).1 (width_fits span)) in
    let other = least_width span span h.power.0 (subst (λ w. span / w ≤ 31) h.power.1 h.fits) in
    let one = h.power.1 in
    let two = (width_power span span).1 in
    omega (arith, own, other, one, two)

-- the buckets of a tree over all values
pub buckets_are : (values : Values) (buckets : Buckets) → AreBuckets values.least values.greatest buckets → buckets ≡ buckets_over values
buckets_are values buckets h = by buckets h.min_is h.max_is (width_is (span_of values) buckets.width h.width_is)
  where
    by : (b : Buckets) → b.min ≡ values.least → b.max ≡ values.greatest → b.width ≡ width_up_to (span_of values) (span_of values) → b ≡ buckets_over values
    by b e f g = rw (← g, ← e, ← f) refl

-- ---- the range of a tree

near_span : (low high : ℤ) → low ≤ℤ high → high <ℤ (low +ℤ pos 31) → offset_of low high < 31
near_span low high l near = omega (arith, ints)

far_span : (low high : ℤ) → (low +ℤ pos 31) ≤ℤ high → 31 ≤ offset_of low high
far_span low high far = omega (arith, ints)

through_three : (a b c d : ℤ) → a ≤ℤ b → b ≤ℤ c → c ≤ℤ d → a ≤ℤ d
through_three a b c d h k l = omega (arith, ints)

in_order : (s : Edge) (es : List Edge) → (all_values y_range (s ∷ es)).least ≤ℤ (all_values y_range (s ∷ es)).greatest
in_order s es =
    let values = all_values y_range (s ∷ es) in
    let own = All-head (λ t. LiesAmong values (y_range t)) s es (all_among y_range (s ∷ es)) in
    through_three values.least (y_range s).least (y_range s).greatest values.greatest own.from (min_to_max s.a.y s.b.y) own.to

-- from the least y that was measured to the greatest
pub no_layout : (bottom : ℤ) (es : List Edge) (low high : ℤ) → All (InRange bottom) es
    → low ≡ fold int_min (pos 9223372036854775807) (map (λ s. (y_range s).least) es) → high ≡ fold int_max (negsuc 9223372036854775807) (map (λ s. (y_range s).greatest) es)
    → high <ℤ (low +ℤ pos 31) → has_layout (all_values y_range es) ≡ false
no_layout bottom [] low high all e f near = refl
no_layout bottom (s ∷ es) low high all e f near =
    let own = All-head (InRange bottom) s es all in
    let least : low ≡ (all_values y_range (s ∷ es)).least = e ∙ least_measured s es own.1 in
    let greatest : high ≡ (all_values y_range (s ∷ es)).greatest = f ∙ greatest_measured s es own.2 in
    let values = all_values y_range (s ∷ es) in
    short (span_of values) (near_span values.least values.greatest (in_order s es) (subst (λ h. h <ℤ (values.least +ℤ pos 31)) greatest (subst (λ l. high <ℤ (l +ℤ pos 31)) least near)))
  where
    short : (n : ℕ) → n < 31 → nat_le 31 n ≡ false
    short n l = grind arith

pub some_layout : (bottom : ℤ) (es : List Edge) (low high : ℤ) → All (InRange bottom) es
    → low ≡ fold int_min (pos 9223372036854775807) (map (λ s. (y_range s).least) es) → high ≡ fold int_max (negsuc 9223372036854775807) (map (λ s. (y_range s).greatest) es)
    → (low +ℤ pos 31) ≤ℤ high → (has_layout (all_values y_range es) ≡ true) × (low ≡ (all_values y_range es).least) × (high ≡ (all_values y_range es).greatest)
some_layout bottom [] low high all e f far = absurd (apart (subst (λ h. (pos 9223372036854775807 +ℤ pos 31) ≤ℤ h) f (subst (λ l. (l +ℤ pos 31) ≤ℤ high) e far)))
  where
    apart : (pos 9223372036854775807 +ℤ pos 31) ≤ℤ negsuc 9223372036854775807 → ⊥
    apart h = omega (arith, ints)
some_layout bottom (s ∷ es) low high all e f far =
    let own = All-head (InRange bottom) s es all in
    let least : low ≡ (all_values y_range (s ∷ es)).least = e ∙ least_measured s es own.1 in
    let greatest : high ≡ (all_values y_range (s ∷ es)).greatest = f ∙ greatest_measured s es own.2 in
    let values = all_values y_range (s ∷ es) in
    (long (span_of values) (far_span values.least values.greatest (subst (λ h. (values.least +ℤ pos 31) ≤ℤ h) greatest (subst (λ l. (l +ℤ pos 31) ≤ℤ high) least far))), least, greatest)
  where
    long : (n : ℕ) → 31 ≤ n → nat_le 31 n ≡ true
    long n l = grind arith

-- a new tree over them
pub tree_empty : {V : Type 0} (es : List Edge) (low high : ℤ) → low ≡ (all_values y_range es).least → high ≡ (all_values y_range es).greatest
    → (bag : Bag ℤ V) → bag ≡ empty_bag bag.buckets → AreBuckets low high bag.buckets → bag ≡ empty_bag (y_buckets es)
tree_empty es low high e f bag none h =
    let values = all_values y_range es in
    let own : AreBuckets values.least values.greatest bag.buckets = subst (λ g. AreBuckets values.least g bag.buckets) f (subst (λ l. AreBuckets l high bag.buckets) e h) in
    none ∙ ap empty_bag (buckets_are values bag.buckets own)
