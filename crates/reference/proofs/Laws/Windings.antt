-- Sums over the elements taken so far, products in 128 bits, and places on an edge.
use Rattle.std.proofs.Common.{◌≡◌, refl, ap, ◌∙◌, ℕ, ◌+◌, ◌-◌, ◌*◌, ◌^◌, ◌<◌, ◌≤◌, List, [], ◌∷◌, ◌++◌, map, take, length, get_or, ℤ, pos, negsuc, neg_ℤ, ◌+ℤ◌, ◌-ℤ◌, ◌*ℤ◌, ◌≤ℤ◌, true, false, cond, arith, w64, FitsSigned, to_z, of_z}
use Rattle.std.specs.Int.{w128}
use Rattle.std.specs.Ordering.{int_eq}
use Rattle.std.specs.Prelude.{unsigned_abs, int_le, int_lt, ◌&&◌, Bool, ◌<ℤ◌}
use Rattle.std.proofs.lemmas.Nat.{mul-le}
use Rattle.std.proofs.lemmas.Int.{ints, unsigned_abs-mul, fits_signed_from_abs, to_z-of_z}
use Rattle.std.proofs.lemmas.List.{map-append}
use Rattle.plane_base.specs.Plane.{Point, RationalPoint, step_winding}
use Rattle.plane_base.specs.Counts.{Count, boolean}
use Rattle.plane_base.specs.Windings.{path_winding}
use Rattle.reference.specs.MapViews.{IsCountWithin}
use Rattle.plane_base.proofs.Facts.Maps.Laying.{path_sum}
use Rattle.plane_base.proofs.Facts.Numbers.Products64.{size_at_most}
use Rattle.plane_base.proofs.Facts.Thinning.Indexes.{taken_to}
use Rattle.plane_base.specs.Totals.{total}
use Rattle.plane_base.proofs.Facts.Lists.Totals.{total_append}

module _ {X Y : Type 0} (f : X → Y) (xs : List X) (i : ℕ) (x : X) (inside : i < length xs) (at : x ≡ get_or xs i x) where
  one_more : map f (take (i + 1) xs) ≡ map f (take i xs) ++ f x ∷ []
  one_more = ap (map f) (taken_to xs i (i + 1) x refl (omega arith) at) ∙ map-append f (take i xs) (x ∷ [])

  pub total_taken_more : (n : Y → ℤ) → total n (map f (take (i + 1) xs)) ≡ total n (map f (take i xs)) +ℤ n (f x)
  total_taken_more n = ap (total n) one_more ∙ (total_append n (map f (take i xs)) (f x ∷ []) ∙ alone (total n (map f (take i xs))) (n (f x)))
    where
      alone : (s t : ℤ) → s +ℤ (t +ℤ pos 0) ≡ s +ℤ t
      alone s t = omega (arith, ints)

-- a winding is such a sum
pub path_winding_is_sum : (path : List Point) (p : RationalPoint) → path_sum (λ u v. step_winding u v p) path ≡ path_winding path p
path_winding_is_sum [] p = refl
path_winding_is_sum (u ∷ []) p = refl
path_winding_is_sum (u ∷ v ∷ rest) p = ap (λ s. step_winding u v p +ℤ s) (path_winding_is_sum (v ∷ rest) p)

-- ---- 128 bits

-- a difference of coordinates and a distance have a product of 106 bits
pub wide_size : (x y : ℤ) → neg_ℤ (pos (2 ^ 37)) ≤ℤ x → x ≤ℤ pos (2 ^ 37) → neg_ℤ (pos (2 ^ 69)) ≤ℤ y → y ≤ℤ pos (2 ^ 69) → unsigned_abs (x *ℤ y) ≤ 2 ^ 106
wide_size x y a b c d =
    let sizes : unsigned_abs x * unsigned_abs y ≤ 2 ^ 37 * 2 ^ 69 = mul-le _ _ (2 ^ 37) (2 ^ 69) (size_at_most x (2 ^ 37) a b) (size_at_most y (2 ^ 69) c d) in
    rw (unsigned_abs-mul x y) sizes

pub wide_product_is : (x y r : ℤ) → FitsSigned w64 x → FitsSigned w128 y → r ≡ to_z w64 (of_z w64 x) → unsigned_abs (x *ℤ y) ≤ 2 ^ 106 → to_z w128 (of_z w128 (to_z w128 (of_z w128 r) *ℤ to_z w128 (of_z w128 y))) ≡ x *ℤ y
wide_product_is x y r f g e h =
    let plain : r ≡ x = e ∙ to_z-of_z w64 x f in
    let narrow : FitsSigned w128 x = omega (arith, ints) in
    let fits : FitsSigned w128 (x *ℤ y) = fits_signed_from_abs w128 (x *ℤ y) (omega (arith, h)) in
    rw (plain, to_z-of_z w128 x narrow, to_z-of_z w128 y g, to_z-of_z w128 (x *ℤ y) fits)

pub wide_difference_fits : (a b : ℤ) → neg_ℤ (pos (2 ^ 106)) ≤ℤ a → a ≤ℤ pos (2 ^ 106) → neg_ℤ (pos (2 ^ 106)) ≤ℤ b → b ≤ℤ pos (2 ^ 106) → FitsSigned w128 (to_z w128 (of_z w128 a) -ℤ to_z w128 (of_z w128 b))
wide_difference_fits a b p q r s = omega (arith, ints)

pub wide_difference : (a b : ℤ) → neg_ℤ (pos (2 ^ 106)) ≤ℤ a → a ≤ℤ pos (2 ^ 106) → neg_ℤ (pos (2 ^ 106)) ≤ℤ b → b ≤ℤ pos (2 ^ 106) → to_z w128 (of_z w128 (to_z w128 (of_z w128 a) -ℤ to_z w128 (of_z w128 b))) ≡ a -ℤ b
wide_difference a b p q r s = omega (arith, ints)

-- two coordinates lie so far apart at most
pub apart_at_most :
    (least greatest a b d : ℤ) → neg_ℤ (pos (2 ^ 36)) ≤ℤ least → greatest ≤ℤ pos (2 ^ 36) → least ≤ℤ a → a ≤ℤ greatest → least ≤ℤ b → b ≤ℤ greatest → d ≡ a -ℤ b
    → (neg_ℤ (pos (2 ^ 37)) ≤ℤ d) × (d ≤ℤ pos (2 ^ 37))
apart_at_most least greatest a b d low high k l m n e = (omega (arith, ints, low, high, k, l, m, n, e), omega (arith, ints, low, high, k, l, m, n, e))

-- a product of the difference d, which is v, and the distance n, which is y - r
pub wide_term : (w d n v y r : ℤ) → w ≡ to_z w64 (of_z w64 d) *ℤ to_z w128 (of_z w128 n) → neg_ℤ (pos (2 ^ 37)) ≤ℤ d → d ≤ℤ pos (2 ^ 37) → neg_ℤ (pos (2 ^ 69)) ≤ℤ n → n ≤ℤ pos (2 ^ 69) → d ≡ v → n ≡ to_z w64 (of_z w64 y) -ℤ r → FitsSigned w64 y → w ≡ v *ℤ (y -ℤ r)
wide_term w d n v y r e da db na nb f g h =
    let difference : to_z w64 (of_z w64 d) ≡ v = let plain : to_z w64 (of_z w64 d) ≡ d = omega (arith, ints) in plain ∙ f in
    let distance : to_z w128 (of_z w128 n) ≡ y -ℤ r = let plain : to_z w128 (of_z w128 n) ≡ n = omega (arith, ints) in plain ∙ (g ∙ ap (λ z. z -ℤ r) (to_z-of_z w64 y h)) in
    e ∙ (ap (λ z. z *ℤ to_z w128 (of_z w128 n)) difference ∙ ap (λ z. v *ℤ z) distance)

-- at a column that an edge from a to b spans
pub passed : (a b x s : ℤ) (t : Bool) → a ≤ℤ x → x <ℤ b → t ≡ int_lt (pos 0) s → t ≡ (int_le a x && int_lt x b) && int_lt (pos 0) s
passed a b x s t h k e = grind (arith, ints)

-- one of -1, 0 and 1 added to a sum of n of them
pub small_sum : (a r s : ℤ) (n : ℕ) → n < 2 ^ 64 → neg_ℤ (pos n) ≤ℤ a → a ≤ℤ pos n → negsuc 0 ≤ℤ s → s ≤ℤ pos 1 → r ≡ to_z w64 (of_z w64 s) → to_z w128 (of_z w128 (a +ℤ to_z w128 (of_z w128 r))) ≡ a +ℤ s
small_sum a r s n few low high below above e = omega (arith, ints)

-- ---- places on an edge

-- what is off an edge's line is not on it
pub off_line : (s : ℤ) (b c : Bool) → (s ≡ pos 0 → ⊥) → false ≡ int_eq s (pos 0) && b && c
off_line s b c h = by (int_eq s (pos 0)) refl
  where
    by : (on : Bool) → int_eq s (pos 0) ≡ on → false ≡ on && b && c
    by true e = absurd (h (grind (arith, ints)))
    by false e = refl

-- on its line the ends tell, the second of two that the first passes
pub on_line : (s : ℤ) (b c r : Bool) → s ≡ pos 0 → b ≡ true → r ≡ c → r ≡ int_eq s (pos 0) && b && c
on_line s b c r e f h = rw (e, f) h

-- ---- sums of counts

-- a winding of fewer than 2^63 steps, added to a sum of n such
pub wide_total : (a w : ℤ) (n k : ℕ) → n < 2 ^ 64 → k < 2 ^ 63 → neg_ℤ (pos (2 ^ 63 * n)) ≤ℤ a → a ≤ℤ pos (2 ^ 63 * n) → neg_ℤ (pos k) ≤ℤ w → w ≤ℤ pos k → to_z w128 (of_z w128 (a +ℤ to_z w128 (of_z w128 w))) ≡ a +ℤ w
wide_total a w n k few short low high above below = omega (arith, ints)

-- a small count added to a sum of them
pub wide_count : (a c : ℤ) → neg_ℤ (pos (2 ^ 126)) ≤ℤ a → a ≤ℤ pos (2 ^ 126) → neg_ℤ (pos (2 ^ 62)) ≤ℤ c → c ≤ℤ pos (2 ^ 62) → to_z w128 (of_z w128 (to_z w128 (of_z w128 a) +ℤ to_z w128 (of_z w128 c))) ≡ a +ℤ c
wide_count a c low high above below = omega (arith, ints)

-- what a test lets through is within the bound too
pub tested_within : (test : Bool) (n : ℕ) (own counted : Count) → IsCountWithin n own → counted.subject ≡ cond test own.subject (pos 0) → counted.clip ≡ cond test own.clip (pos 0) → IsCountWithin n counted
tested_within test n own counted within subject clip = record {
  subject_above = rw subject (above test own.subject within.subject_above);
  subject_below = rw subject (below test own.subject within.subject_below);
  clip_above = rw clip (above test own.clip within.clip_above);
  clip_below = rw clip (below test own.clip within.clip_below);
}
  where
    above : (test : Bool) (c : ℤ) → neg_ℤ (pos n) ≤ℤ c → neg_ℤ (pos n) ≤ℤ cond test c (pos 0)
    above true c h = h
    above false c h = omega (arith, ints)

    below : (test : Bool) (c : ℤ) → c ≤ℤ pos n → cond test c (pos 0) ≤ℤ pos n
    below true c h = h
    below false c h = omega (arith, ints)

pub sum_within : (m n : ℕ) (a c : Count) → IsCountWithin (m * n) a → IsCountWithin m c → IsCountWithin (m * (n + 1)) (boolean.join a c)
sum_within m n a c h k = record {
  subject_above = lower (m * n) m (m * (n + 1)) a.subject c.subject (omega (arith, more)) h.subject_above k.subject_above;
  subject_below = upper (m * n) m (m * (n + 1)) a.subject c.subject (omega (arith, more)) h.subject_below k.subject_below;
  clip_above = lower (m * n) m (m * (n + 1)) a.clip c.clip (omega (arith, more)) h.clip_above k.clip_above;
  clip_below = upper (m * n) m (m * (n + 1)) a.clip c.clip (omega (arith, more)) h.clip_below k.clip_below;
}
  where
    more : m * (n + 1) ≡ m * n + m
    more = grind arith

    lower : (i j k : ℕ) (x y : ℤ) → k ≡ i + j → neg_ℤ (pos i) ≤ℤ x → neg_ℤ (pos j) ≤ℤ y → neg_ℤ (pos k) ≤ℤ (x +ℤ y)
    lower i j k x y e h l = omega (arith, ints)

    upper : (i j k : ℕ) (x y : ℤ) → k ≡ i + j → x ≤ℤ pos i → y ≤ℤ pos j → (x +ℤ y) ≤ℤ pos k
    upper i j k x y e h l = omega (arith, ints)
