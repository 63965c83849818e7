-- Forward ways by angle: a strict weak order.
use Rattle.std.proofs.Common.{◌≡◌, ℤ, pos, neg_ℤ, ◌-ℤ◌, ◌+ℤ◌, ◌*ℤ◌, ◌≤ℤ◌, ◌<ℤ◌, ◌⊎◌, inl, inr, Bool, true, false, int_lt, cond, refl, sym, ap, ◌∙◌, arith}
use Rattle.std.proofs.lemmas.Int.{ints}
use Rattle.std.proofs.Math.IntN.{*ℤ_comm}
use Rattle.std.specs.Cmp.{IsStrictWeakOrder}
use Rattle.std.specs.declared.cmp.Ordering.{Ordering}
use Rattle.std.specs.declared.cmp.Ordering.TheVariants.{Less, Equal, Greater}
use Rattle.std.specs.Ordering.{is_lt, int_cmp}
use Rattle.plane_base.specs.Plane.{Point}
use Rattle.plane_base.proofs.Facts.Points.Orders.{before_is_less, point_less}
use Rattle.plane_base.proofs.Facts.Numbers.Products.{product_not_positive, product_not_negative, factor_not_positive}
use Rattle.plane_base.proofs.Facts.Points.Turns.{cross, cross_swap, three_vectors_x}
use Rattle.segment_arrangement.specs.Sweeps.{IsForward, turns_left}
use Rattle.segment_arrangement.proofs.Facts.ColumnPlaces.{lt_tells, lt_tells_not, lt_fails}

abbrev way : ℤ → ℤ → Point
way w c = record { x = w; y = c }

abbrev IsForth : Point → Type 0
IsForth v = (pos 0 <ℤ v.x) ⊎ ((pos 0 ≡ v.x) × (pos 0 <ℤ v.y))

forth : (span w c : ℤ) → IsForward span w c → IsForth (way w c)
forth span w c f = point_less (way (pos 0) (pos 0)) (way w c) (before_is_less (way (pos 0) (pos 0)) (way w c) f.forward)

not_back : (v : Point) → IsForth v → pos 0 ≤ℤ v.x
not_back v (inl l) = omega (arith, ints, l)
not_back v (inr e) = omega (arith, ints, e.0)

-- ---- where one of the two is vertical

to_vertical : (v w : Point) → pos 0 ≡ w.x → cross v w ≡ w.y *ℤ v.x
to_vertical v w e = ap (λ t. (v.x *ℤ w.y) -ℤ (v.y *ℤ t)) (sym e) ∙ left v.x v.y w.y
  where
    left : (a b d : ℤ) → (a *ℤ d) -ℤ (b *ℤ pos 0) ≡ d *ℤ a
    left a b d = let e : a *ℤ d ≡ d *ℤ a = *ℤ_comm a d in omega (arith, ints, e)

from_vertical : (v w : Point) → pos 0 ≡ v.x → cross v w ≡ neg_ℤ (v.y *ℤ w.x)
from_vertical v w e = ap (λ t. (t *ℤ w.y) -ℤ (v.y *ℤ w.x)) (sym e) ∙ left w.y (v.y *ℤ w.x)
  where
    left : (a b : ℤ) → (pos 0 *ℤ a) -ℤ b ≡ neg_ℤ b
    left a b = omega (arith, ints)

-- no left turn from x to y, and none from y to z: none from x to z
no_left : (x y z : Point) → IsForth x → IsForth y → IsForth z → cross x y ≤ℤ pos 0 → cross y z ≤ℤ pos 0 → cross x z ≤ℤ pos 0
no_left x y z f (inl right) h l m =
    factor_not_positive y.x (cross x z) right
    (added (y.x *ℤ cross x z) (cross y z) x.x (cross x y) z.x (three_vectors_x x z y) (product_not_positive x.x (cross y z) (not_back x f) m) (product_not_positive z.x (cross x y) (not_back z h) l))
  where
    added : (s a b c d : ℤ) → s ≡ (a *ℤ b) +ℤ (c *ℤ d) → (b *ℤ a) ≤ℤ pos 0 → (d *ℤ c) ≤ℤ pos 0 → s ≤ℤ pos 0
    added s a b c d e l m = let p : a *ℤ b ≡ b *ℤ a = *ℤ_comm a b in let r : c *ℤ d ≡ d *ℤ c = *ℤ_comm c d in omega (arith, ints, e, p, r, l, m)
no_left x y z f (inr up) h l m = by f
  where
    level : x.x ≤ℤ pos 0
    level = factor_not_positive y.y x.x up.1 (rw (sym (to_vertical x y up.0)) l)

    turned : (n : ℤ) → pos 0 ≤ℤ n → neg_ℤ n ≤ℤ pos 0
    turned n l = omega (arith, ints)

    by : IsForth x → cross x z ≤ℤ pos 0
    by (inl right) = absurd (omega (arith, ints, level, right))
    by (inr too) = rw (from_vertical x z too.0) (turned (x.y *ℤ z.x) (product_not_negative x.y z.x (below x.y too.1) (not_back z h)))
      where
        below : (n : ℤ) → pos 0 <ℤ n → pos 0 ≤ℤ n
        below n l = omega (arith, ints)

pub angles_are_ordered : {X : Type 0} (span : ℤ) (width climb : X → ℤ) → ((x : X) → IsForward span (width x) (climb x)) → IsStrictWeakOrder (λ s t. turns_left (width s) (climb s) (width t) (climb t))
angles_are_ordered {X} span width climb forward = record { one_way = one_way; chain = chain }
  where
    point : X → Point
    point s = way (width s) (climb s)

    one_way : (s t : X) → turns_left (width s) (climb s) (width t) (climb t) ≡ true → turns_left (width t) (climb t) (width s) (climb s) ≡ false
    one_way s t l =
        let a = way (width s) (climb s) in
        let b = way (width t) (climb t) in
        lt_fails (pos 0) (cross b a) (turned (cross b a) (cross a b) (cross_swap b a) (lt_tells (pos 0) (cross a b) l))
      where
        turned : (m n : ℤ) → m ≡ neg_ℤ n → pos 0 <ℤ n → m ≤ℤ pos 0
        turned m n e l = omega (arith, ints)

    chain : (s t u : X) → turns_left (width s) (climb s) (width t) (climb t) ≡ false → turns_left (width t) (climb t) (width u) (climb u) ≡ false → turns_left (width s) (climb s) (width u) (climb u) ≡ false
    chain s t u l m =
        let a = way (width s) (climb s) in
        let b = way (width t) (climb t) in
        let c = way (width u) (climb u) in
        lt_fails (pos 0) (cross a c)
        (no_left a b c (forth span (width s) (climb s) (forward s)) (forth span (width t) (climb t) (forward t)) (forth span (width u) (climb u) (forward u)) (lt_tells_not (pos 0) (cross a b) l) (lt_tells_not (pos 0) (cross b c) m))

pub less_is_left : (w c v d : ℤ) (o : Ordering) → o ≡ int_cmp (pos 0) ((w *ℤ d) -ℤ (c *ℤ v)) → is_lt o ≡ turns_left w c v d
less_is_left w c v d o e = ap is_lt e ∙ by ((w *ℤ d) -ℤ (c *ℤ v))
  where
    first : (b d : Bool) → is_lt (cond b Less (cond d Greater Equal)) ≡ b
    first true d = refl
    first false true = refl
    first false false = refl

    by : (n : ℤ) → is_lt (int_cmp (pos 0) n) ≡ int_lt (pos 0) n
    by n = first (int_lt (pos 0) n) (int_lt n (pos 0))
