-- The windings of steps along one line add up.
use Rattle.std.proofs.Common.{◌≡◌, Bool, true, false, not, ◌&&◌, cond, ℤ, pos, negsuc, ◌+ℤ◌, ◌-ℤ◌, ◌*ℤ◌, neg_ℤ, ◌<ℤ◌, int_lt, int_le, refl, sym, ap, subst, ◌∙◌, arith}
use Rattle.std.proofs.lemmas.Int.{ints}
use Rattle.std.proofs.Math.IntN.{*ℤ-zero}
use Rattle.plane_base.specs.Plane.{Point, turn, RationalPoint, side, step_winding}
use Rattle.plane_base.proofs.Facts.Numbers.Products.{product_positive, factor_positive, below_of_products}
use Rattle.plane_base.proofs.Facts.Points.Turns.{width, side_by_widths, side_by_end_widths, turn_swap, turn_reverse, turn_cyclic}

-- ---- a step's winding by four tests: its start and its end stand at or before p, and p is above it, read there and back

abbrev pub contribution : Bool → Bool → Bool → Bool → ℤ
contribution started ended above above_back =
    cond ((started && not ended) && above) (pos 1) (cond ((ended && not started) && above_back) (negsuc 0) (pos 0))

abbrev pub at_or_before : Point → RationalPoint → Bool
at_or_before u p = int_le (pos p.q *ℤ u.x) p.x

abbrev pub is_above : Point → Point → RationalPoint → Bool
is_above u v p = int_lt (pos 0) (side u v p)

pub after_is : (x y : ℤ) → int_lt x y ≡ not (int_le y x)
after_is x y = by (int_lt x y) (int_le y x) refl refl
  where
    by : (a b : Bool) → int_lt x y ≡ a → int_le y x ≡ b → a ≡ not b
    by true true e f = absurd (omega (arith, ints))
    by true false e f = refl
    by false true e f = refl
    by false false e f = absurd (omega (arith, ints))

pub step_winding_is : (u v : Point) (p : RationalPoint) → step_winding u v p ≡ contribution (at_or_before u p) (at_or_before v p) (is_above u v p) (is_above v u p)
step_winding_is u v p = rw (after_is p.x (pos p.q *ℤ v.x), after_is p.x (pos p.q *ℤ u.x)) refl

-- ---- two lines that are one

carried : (w s z t : ℤ) → pos 0 <ℤ w → pos 0 <ℤ z → w *ℤ s ≡ z *ℤ t → pos 0 <ℤ s → pos 0 <ℤ t
carried w s z t h k e l = factor_positive z t k (subst (λ x. pos 0 <ℤ x) e (product_positive w s h l))

pub same_sign : (w s z t : ℤ) → pos 0 <ℤ w → pos 0 <ℤ z → w *ℤ s ≡ z *ℤ t → int_lt (pos 0) s ≡ int_lt (pos 0) t
same_sign w s z t h k e = by (int_lt (pos 0) s) (int_lt (pos 0) t) refl refl
  where
    apart : (x : ℤ) {P : Type 0} → int_lt (pos 0) x ≡ false → pos 0 <ℤ x → P
    apart x f l = absurd (omega (arith, ints))

    positive : (x : ℤ) → int_lt (pos 0) x ≡ true → pos 0 <ℤ x
    positive x f = omega (arith, ints)

    by : (a b : Bool) → int_lt (pos 0) s ≡ a → int_lt (pos 0) t ≡ b → a ≡ b
    by true true f g = refl
    by true false f g = apart t g (carried w s z t h k e (positive s f))
    by false true f g = apart s f (carried z t w s k h (sym e) (positive t g))
    by false false f g = refl

nothing_after : (x : ℤ) → x +ℤ pos 0 ≡ x
nothing_after x = omega (arith, ints)

nothing_before : (x : ℤ) → pos 0 +ℤ x ≡ x
nothing_before x = omega (arith, ints)

left_out : (s k t : ℤ) → t ≡ pos 0 → s +ℤ (k *ℤ t) ≡ s
left_out s k t e = ap (λ x. s +ℤ (k *ℤ x)) e ∙ (ap (λ x. s +ℤ x) (*ℤ-zero k) ∙ nothing_after s)

-- the widths of two steps from a are above 0
pub same_from_start : (a b c : Point) (p : RationalPoint) → turn a b c ≡ pos 0 → pos 0 <ℤ width a b → pos 0 <ℤ width a c → is_above a b p ≡ is_above a c p
same_from_start a b c p flat h k =
    same_sign (width a c) (side a b p) (width a b) (side a c p) k h
    (side_by_widths a b c p ∙ left_out (width a b *ℤ side a c p) (p.x -ℤ (pos p.q *ℤ a.x)) (turn a b c) flat)

-- the widths of two steps to a are above 0
pub same_to_end : (a b c : Point) (p : RationalPoint) → turn a b c ≡ pos 0 → pos 0 <ℤ width b a → pos 0 <ℤ width c a → is_above b a p ≡ is_above c a p
same_to_end a b c p flat h k =
    same_sign (width c a) (side b a p) (width b a) (side c a p) k h (side_by_end_widths a b c p ∙ left_out (width b a *ℤ side c a p) (p.x -ℤ (pos p.q *ℤ a.x)) (turn a b c) flat)

-- a point at or before p, and one after it
pub width_positive : (u v : Point) (p : RationalPoint) → at_or_before u p ≡ true → at_or_before v p ≡ false → pos 0 <ℤ width u v
width_positive u v p e f =
    apart u.x v.x (below_of_products (pos p.q) u.x v.x (omega (arith, ints)) (between (pos p.q *ℤ u.x) p.x (pos p.q *ℤ v.x) e f))
  where
    apart : (x y : ℤ) → x <ℤ y → pos 0 <ℤ (y -ℤ x)
    apart x y h = omega (arith, ints)

    between : (x y z : ℤ) → int_le x y ≡ true → int_le z y ≡ false → x <ℤ z
    between x y z e f = omega (arith, ints)

-- ---- the law

there_and_back : (s : Bool) → cond s (pos 1) (pos 0) +ℤ cond s (negsuc 0) (pos 0) ≡ pos 0
there_and_back true = refl
there_and_back false = refl

back_and_there : (s : Bool) → cond s (negsuc 0) (pos 0) +ℤ cond s (pos 1) (pos 0) ≡ pos 0
back_and_there true = refl
back_and_there false = refl

-- u, m and v on one line, in any order: the windings of the steps from u to m and from m to v add up to that of the step from u to v
pub on_one_line : (u m v : Point) (p : RationalPoint) → turn u m v ≡ pos 0 → step_winding u m p +ℤ step_winding m v p ≡ step_winding u v p
on_one_line u m v p flat =
    rw (step_winding_is u m p, step_winding_is m v p, step_winding_is u v p) (by (at_or_before u p) (at_or_before m p) (at_or_before v p) refl refl refl)
  where
    m_u_v : turn m u v ≡ pos 0
    m_u_v = turn_swap m u v ∙ ap neg_ℤ flat

    v_u_m : turn v u m ≡ pos 0
    v_u_m = turn_cyclic v u m ∙ flat

    by : (a b c : Bool) → at_or_before u p ≡ a → at_or_before m p ≡ b → at_or_before v p ≡ c → contribution a b (is_above u m p) (is_above m u p) +ℤ contribution b c (is_above m v p) (is_above v m p) ≡ contribution a c (is_above u v p) (is_above v u p)
    by true true true e f g = refl
    by false false false e f g = refl
    by true false false e f g =
        nothing_after (cond (is_above u m p) (pos 1) (pos 0)) ∙ ap (λ s. cond s (pos 1) (pos 0)) (same_from_start u m v p flat (width_positive u m p e f) (width_positive u v p e g))
    by true true false e f g =
        nothing_before (cond (is_above m v p) (pos 1) (pos 0)) ∙ ap (λ s. cond s (pos 1) (pos 0)) (same_to_end v m u p (turn_reverse v m u ∙ ap neg_ℤ flat) (width_positive m v p f g) (width_positive u v p e g))
    by true false true e f g =
        ap (λ s. cond (is_above u m p) (pos 1) (pos 0) +ℤ cond s (negsuc 0) (pos 0)) (sym (same_to_end m u v p m_u_v (width_positive u m p e f) (width_positive v m p g f))) ∙ there_and_back (is_above u m p)
    by false true false e f g =
        ap (λ s. cond (is_above m u p) (negsuc 0) (pos 0) +ℤ cond s (pos 1) (pos 0)) (sym (same_from_start m u v p m_u_v (width_positive m u p f e) (width_positive m v p f g))) ∙ back_and_there (is_above m u p)
    by false true true e f g =
        nothing_after (cond (is_above m u p) (negsuc 0) (pos 0)) ∙ ap (λ s. cond s (negsuc 0) (pos 0)) (same_to_end u m v p flat (width_positive m u p f e) (width_positive v u p g e))
    by false false true e f g =
        nothing_before (cond (is_above v m p) (negsuc 0) (pos 0)) ∙ ap (λ s. cond s (negsuc 0) (pos 0)) (sym (same_from_start v u m p v_u_m (width_positive v u p g e) (width_positive v m p g f)))

-- ---- simple steps
