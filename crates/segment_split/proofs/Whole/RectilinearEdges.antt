-- Horizontal and vertical edges cross at whole points alone.
use Rattle.std.proofs.Common.{◌≡◌, true, List, ℤ, pos, ◌-ℤ◌, ◌*ℤ◌, ◌<ℤ◌, Contains, ◌⊎◌, inl, inr, ⊎_elim, int_eq, sym, ap, ◌∙◌, arith}
use Rattle.std.proofs.lemmas.Int.{ints}
use Rattle.std.proofs.lemmas.Bool.Decides.{Decides-int_eq}
use Rattle.std.proofs.lemmas.List.Elements.{All-map, All-contains}
use Rattle.plane_base.specs.Plane.{Edge, RationalPoint, turn, side, is_before}
use Rattle.plane_base.specs.Segments.{cross_properly, opposite}
use Rattle.plane_base.specs.Crossing.{crossing}
use Rattle.plane_base.specs.Counts.{Counting, Entry}
use Rattle.plane_base.specs.WholeLaws.{MeetsWhole}
use Rattle.plane_base.proofs.Facts.Maps.Laying.{IsDirected}
use Rattle.plane_base.proofs.Facts.Numbers.Products.{factor_zero}
use Rattle.plane_base.proofs.Facts.Points.Orders.{point_less, before_is_less}
use Rattle.plane_base.proofs.Facts.Crossings.Tests.{opposite_tells, both_true, one_true}
use Rattle.plane_base.proofs.Facts.Crossings.Place.{crossing_is_common}
use Rattle.plane_base.proofs.Facts.Crossings.Whole.{whole_is_point, whole_marks_stay}
use Rattle.segment_split.specs.Passes.{edges_of}
use Rattle.segment_split.specs.WholeLaws.{AllMeetWhole}
use Rattle.segment_split.specs.LineLaws.{is_rectilinear, AllRectilinear, HorizontalAndVerticalMeetWhole}
use Rattle.segment_split.proofs.Spread.Lists.{IsDirectedEdge}

abbrev pub IsHorizontal : Edge → Type 0
IsHorizontal s = s.a.y ≡ s.b.y

abbrev pub IsVertical : Edge → Type 0
IsVertical s = s.a.x ≡ s.b.x

pub rectilinear : (s : Edge) → is_rectilinear s ≡ true → IsHorizontal s ⊎ IsVertical s
rectilinear s e =
    ⊎_elim (λ h. inl ((Decides-int_eq s.a.y s.b.y).0 h)) (λ h. inr ((Decides-int_eq s.a.x s.b.x).0 h)) (one_true (int_eq s.a.y s.b.y) (int_eq s.a.x s.b.x) e)

-- ---- what runs one way doesn't cross

not_opposite : (m n : ℤ) → m ≡ n → opposite m n ≡ true → ⊥
not_opposite m n e h = ⊎_elim (λ k. absurd (omega (arith, ints, k.0, k.1))) (λ k. absurd (omega (arith, ints, k.0, k.1))) (opposite_tells m n h)

pub nothing : (x : ℤ) → pos 0 *ℤ x ≡ pos 0
nothing x = omega (arith, ints)

horizontal_same : (w v y x z t : ℤ) → v ≡ pos 0 → y ≡ z → (w *ℤ y) -ℤ (v *ℤ x) ≡ (w *ℤ z) -ℤ (v *ℤ t)
horizontal_same w v y x z t e f = rw (e, f) (ap (λ n. (w *ℤ z) -ℤ n) (nothing x ∙ sym (nothing t)))

vertical_same : (w v y x z t : ℤ) → w ≡ pos 0 → x ≡ t → (w *ℤ y) -ℤ (v *ℤ x) ≡ (w *ℤ z) -ℤ (v *ℤ t)
vertical_same w v y x z t e f = rw (e, f) (ap (λ n. n -ℤ (v *ℤ t)) (nothing y ∙ sym (nothing z)))

pub gap : (x y : ℤ) → x ≡ y → y -ℤ x ≡ pos 0
gap x y e = omega (arith, ints)

shifted : (x y z : ℤ) → x ≡ y → x -ℤ z ≡ y -ℤ z
shifted x y z e = ap (λ w. w -ℤ z) e

not_crossing : (s t : Edge) → turn s.a s.b t.a ≡ turn s.a s.b t.b → cross_properly s t ≡ true → ⊥
not_crossing s t e h =
    not_opposite (turn s.a s.b t.a) (turn s.a s.b t.b) e (both_true (opposite (turn s.a s.b t.a) (turn s.a s.b t.b)) (opposite (turn t.a t.b s.a) (turn t.a t.b s.b)) h).0

both_horizontal : (s t : Edge) → IsHorizontal s → IsHorizontal t → cross_properly s t ≡ true → ⊥
both_horizontal s t h k = not_crossing s t (horizontal_same (s.b.x -ℤ s.a.x) (s.b.y -ℤ s.a.y) (t.a.y -ℤ s.a.y) _ (t.b.y -ℤ s.a.y) _ (gap s.a.y s.b.y h) (shifted t.a.y t.b.y s.a.y k))

both_vertical : (s t : Edge) → IsVertical s → IsVertical t → cross_properly s t ≡ true → ⊥
both_vertical s t h k = not_crossing s t (vertical_same (s.b.x -ℤ s.a.x) (s.b.y -ℤ s.a.y) _ (t.a.x -ℤ s.a.x) _ (t.b.x -ℤ s.a.x) (gap s.a.x s.b.x h) (shifted t.a.x t.b.x s.a.x k))

-- ---- a horizontal and a vertical edge cross at a whole point

pub horizontal_zero : (w v y x : ℤ) → v ≡ pos 0 → pos 0 <ℤ w → (w *ℤ y) -ℤ (v *ℤ x) ≡ pos 0 → y ≡ pos 0
horizontal_zero w v y x e h f = factor_zero w y h (alone (w *ℤ y) (v *ℤ x) (ap (λ z. z *ℤ x) e ∙ nothing x) f)
  where
    alone : (m n : ℤ) → n ≡ pos 0 → m -ℤ n ≡ pos 0 → m ≡ pos 0
    alone m n e f = omega (arith, ints)

pub vertical_zero : (w v y x : ℤ) → w ≡ pos 0 → pos 0 <ℤ v → (w *ℤ y) -ℤ (v *ℤ x) ≡ pos 0 → x ≡ pos 0
vertical_zero w v y x e h f = factor_zero v x h (alone (w *ℤ y) (v *ℤ x) (ap (λ z. z *ℤ y) e ∙ nothing y) f)
  where
    alone : (m n : ℤ) → m ≡ pos 0 → m -ℤ n ≡ pos 0 → n ≡ pos 0
    alone m n e f = omega (arith, ints)

pub wide : (s : Edge) → is_before s.a s.b ≡ true → IsHorizontal s → pos 0 <ℤ (s.b.x -ℤ s.a.x)
wide s forward h = ⊎_elim (λ l. omega (arith, ints, l)) (λ l. absurd (omega (arith, ints, l.1, h))) (point_less s.a s.b (before_is_less s.a s.b forward))

pub tall : (s : Edge) → is_before s.a s.b ≡ true → IsVertical s → pos 0 <ℤ (s.b.y -ℤ s.a.y)
tall s forward h = ⊎_elim (λ l. absurd (omega (arith, ints, l, h))) (λ l. omega (arith, ints, l.1)) (point_less s.a s.b (before_is_less s.a s.b forward))

closed_gap : (x y : ℤ) → x -ℤ y ≡ pos 0 → y ≡ x
closed_gap x y e = omega (arith, ints)

on_horizontal : (s : Edge) (p : RationalPoint) → is_before s.a s.b ≡ true → IsHorizontal s → side s.a s.b p ≡ pos 0 → pos p.q *ℤ s.a.y ≡ p.y
on_horizontal s p forward h e =
    closed_gap p.y (pos p.q *ℤ s.a.y) (horizontal_zero (s.b.x -ℤ s.a.x) (s.b.y -ℤ s.a.y) (p.y -ℤ (pos p.q *ℤ s.a.y)) _ (gap s.a.y s.b.y h) (wide s forward h) e)

on_vertical : (s : Edge) (p : RationalPoint) → is_before s.a s.b ≡ true → IsVertical s → side s.a s.b p ≡ pos 0 → pos p.q *ℤ s.a.x ≡ p.x
on_vertical s p forward h e =
    closed_gap p.x (pos p.q *ℤ s.a.x) (vertical_zero (s.b.x -ℤ s.a.x) (s.b.y -ℤ s.a.y) _ (p.x -ℤ (pos p.q *ℤ s.a.x)) (gap s.a.x s.b.x h) (tall s forward h) e)

horizontal_meets_vertical : (s t : Edge) → is_before s.a s.b ≡ true → is_before t.a t.b ≡ true → IsHorizontal s → IsVertical t → MeetsWhole s t
horizontal_meets_vertical s t forward other h k e =
    let x = on_vertical t (crossing s t) other k (crossing_is_common.on_second_line s t e) in
    let y = on_horizontal s (crossing s t) forward h (crossing_is_common.on_first_line s t e) in
    (whole_is_point.point (crossing s t) (crossing_is_common.is_rational s t e)).1
    (record { x = t.a.x; y = s.a.y }, (λ i. record { x = x i; y = y i }))

-- any two of them, where both run forward
pub lines_meet_whole : (s t : Edge) → is_before s.a s.b ≡ true → is_before t.a t.b ≡ true → is_rectilinear s ≡ true → is_rectilinear t ≡ true → MeetsWhole s t
lines_meet_whole s t forward other line own = by (rectilinear s line) (rectilinear t own)
  where
    by : IsHorizontal s ⊎ IsVertical s → IsHorizontal t ⊎ IsVertical t → MeetsWhole s t
    by (inl f) (inl g) e = absurd (both_horizontal s t f g e)
    by (inl f) (inr g) e = horizontal_meets_vertical s t forward other f g e
    by (inr f) (inl g) e = whole_marks_stay.swapped t s (horizontal_meets_vertical t s other forward g f) e
    by (inr f) (inr g) e = absurd (both_vertical s t f g e)

-- ---- the law

pub horizontal_meet_whole : {C : Type 0} (es : List (Entry C)) → IsDirected es → AllRectilinear (edges_of es) → AllMeetWhole (edges_of es)
horizontal_meet_whole {C} es directed all s t in_s in_t = lines_meet_whole s t (forward s in_s) (forward t in_t) (line s in_s) (line t in_t)
  where
    line : (r : Edge) → Contains (edges_of es) r → is_rectilinear r ≡ true
    line r at = All-contains (λ s. is_rectilinear s ≡ true) (edges_of es) r all at

    forward : (r : Edge) → Contains (edges_of es) r → is_before r.a r.b ≡ true
    forward r at = All-contains IsDirectedEdge (edges_of es) r (All-map IsDirectedEdge (λ (e : Entry C). e.edge) es directed) at

pub horizontal_and_vertical_meet_whole : {C : Type 0} (kind : Counting C) → HorizontalAndVerticalMeetWhole kind
horizontal_and_vertical_meet_whole kind es h all = horizontal_meet_whole es h.directed all
