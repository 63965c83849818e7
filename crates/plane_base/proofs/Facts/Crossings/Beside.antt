-- A segment that lies on one side of the line of another, or begins or ends where the other does and leaves that line, is parted from it.
--
-- Above, cite `one_side_parted`, `fork_parted` and `join_parted`.
use Rattle.std.proofs.Common.{◌≡◌, ◌≢◌, Bool, true, false, ◌&&◌, ℤ, pos, ◌*ℤ◌, ◌<ℤ◌, ⊎_elim, refl, sym, ap, ◌∙◌, arith}
use Rattle.std.specs.Prelude.{int_lt}
use Rattle.std.specs.Ordering.{int_eq}
use Rattle.std.proofs.lemmas.Int.{ints}
use Rattle.std.proofs.lemmas.Bool.Decides.{Decides-int_eq}
use Rattle.plane_base.specs.Plane.{Point, Edge, turn, scaled, is_before, point_order}
use Rattle.plane_base.specs.Segments.{strictly_inside, opposite, cross_properly, parted}
use Rattle.plane_base.specs.Sides.{is_same}
use Rattle.plane_base.proofs.Facts.Points.Turns.{whole, side_of_whole, turn_there_and_back, turn_end_twice}
use Rattle.plane_base.proofs.Facts.Points.Orders.{before_is_less}
use Rattle.plane_base.proofs.Facts.Crossings.Tests.{both_true, opposite_tells, inside_tells, inside_apart}
use Rattle.plane_base.proofs.Facts.Crossings.Parted.{none_inside, parted_from}
use Rattle.plane_base.proofs.Facts.Columns.Parted.{IsBetween, Balanced, on_both, on_none, between_balanced}

-- ---- a point of the line inside the segment balances the turns of its ends

scaled_once : (a : Point) → scaled 1 a ≡ a
scaled_once a = λ i. record { x = once a.x i; y = once a.y i }
  where
    once : (x : ℤ) → pos 1 *ℤ x ≡ x
    once x = omega (arith, ints)

between_whole : (p : Point) (t : Edge) → strictly_inside p t ≡ true → IsBetween (whole p) t
between_whole p t e =
    let h = both_true (int_eq (turn t.a t.b p) (pos 0)) (is_before t.a p && is_before p t.b) e in
    let k = both_true (is_before t.a p) (is_before p t.b) h.1 in
    record {
      flat = side_of_whole t.a t.b p ∙ (Decides-int_eq (turn t.a t.b p) (pos 0)).0 h.0;
      after = ap (λ z. point_order z p) (scaled_once t.a) ∙ before_is_less t.a p k.0;
      before = ap (λ z. point_order p z) (scaled_once t.b) ∙ before_is_less p t.b k.1;
    }

balanced_inside : (s t : Edge) (p : Point) → turn s.a s.b p ≡ pos 0 → strictly_inside p t ≡ true → Balanced (turn s.a s.b t.a) (turn s.a s.b t.b)
balanced_inside s t p flat e = between_balanced s t (whole p) (omega arith) (side_of_whole s.a s.b p ∙ flat) (between_whole p t e)

-- ---- parted where the turns aren't balanced

pub refuted : (b : Bool) → b ≢ true → b ≡ false
refuted true h = absurd (h refl)
refuted false h = refl

unbalanced_parted : (s t : Edge) → (Balanced (turn s.a s.b t.a) (turn s.a s.b t.b) → ⊥) → strictly_inside t.a s ≡ false → strictly_inside t.b s ≡ false → parted s t ≡ true
unbalanced_parted s t h e f =
    parted_from s t (refuted (cross_properly s t) proper) (none_inside s t e f)
    (none_inside t s (refuted (strictly_inside s.a t) (inside s.a (turn_there_and_back s.a s.b))) (refuted (strictly_inside s.b t) (inside s.b (turn_end_twice s.a s.b))))
  where
    proper : cross_properly s t ≢ true
    proper k =
        h (on_both (opposite_tells (turn s.a s.b t.a) (turn s.a s.b t.b) (both_true (opposite (turn s.a s.b t.a) (turn s.a s.b t.b)) (opposite (turn t.a t.b s.a) (turn t.a t.b s.b)) k).0))

    inside : (p : Point) → turn s.a s.b p ≡ pos 0 → strictly_inside p t ≢ true
    inside p flat k = h (balanced_inside s t p flat k)

-- ---- no end inside

off_line : (p : Point) (s : Edge) → turn s.a s.b p ≢ pos 0 → strictly_inside p s ≡ false
off_line p s h = refuted (strictly_inside p s) (λ k. h (inside_tells p s k).0)

same_is : (p q : Point) → is_same p q ≡ true → p ≡ q
same_is p q e =
    let h = both_true (int_eq p.x q.x) (int_eq p.y q.y) e in
    λ i. record { x = (Decides-int_eq p.x q.x).0 h.0 i; y = (Decides-int_eq p.y q.y).0 h.1 i }

-- ---- the laws

pub one_side_parted : (s t : Edge) (m n : ℤ) → m ≡ turn s.a s.b t.a → n ≡ turn s.a s.b t.b → m ≢ pos 0 → n ≢ pos 0 → int_lt m (pos 0) ≡ int_lt n (pos 0) → parted s t ≡ true
one_side_parted s t m n first second h k e =
    unbalanced_parted s t
    (one_side (turn s.a s.b t.a) (turn s.a s.b t.b) (λ z. h (first ∙ z)) (sym (ap (λ z. int_lt z (pos 0)) first) ∙ (e ∙ ap (λ z. int_lt z (pos 0)) second)))
    (off_line t.a s (λ z. h (first ∙ z))) (off_line t.b s (λ z. k (second ∙ z)))
  where
    differ : (m n : ℤ) {A : Type 0} → int_lt m (pos 0) ≡ int_lt n (pos 0) → m <ℤ pos 0 → pos 0 <ℤ n → A
    differ m n e h k = let f : int_lt m (pos 0) ≡ true = grind (arith, ints) in clash n (sym e ∙ f) k
      where
        clash : (n : ℤ) {A : Type 0} → int_lt n (pos 0) ≡ true → pos 0 <ℤ n → A
        clash n f k = absurd (omega (arith, ints))

    one_side : (m n : ℤ) → m ≢ pos 0 → int_lt m (pos 0) ≡ int_lt n (pos 0) → Balanced m n → ⊥
    one_side m n h e (on_both o) = ⊎_elim (λ o. differ n m (sym e) o.1 o.0) (λ o. differ m n e o.0 o.1) o
    one_side m n h e (on_none f g) = h f

one_off : (m n : ℤ) → m ≡ pos 0 → n ≢ pos 0 → Balanced m n → ⊥
one_off m n e h (on_both o) = ⊎_elim (λ o. absurd (omega (arith, ints, o.0))) (λ o. absurd (omega (arith, ints, o.0))) o
one_off m n e h (on_none f g) = h g

other_off : (m n : ℤ) → m ≢ pos 0 → n ≡ pos 0 → Balanced m n → ⊥
other_off m n h e (on_both o) = ⊎_elim (λ o. absurd (omega (arith, ints, o.1))) (λ o. absurd (omega (arith, ints, o.1))) o
other_off m n h e (on_none f g) = h f

-- one start, and the second's end off the line
pub fork_parted : (s t : Edge) (n : ℤ) → is_same t.a s.a ≡ true → n ≡ turn s.a s.b t.b → n ≢ pos 0 → parted s t ≡ true
fork_parted s t n e second h =
    let same : t.a ≡ s.a = same_is t.a s.a e in
    unbalanced_parted s t
    (one_off (turn s.a s.b t.a) (turn s.a s.b t.b) (ap (λ p. turn s.a s.b p) same ∙ turn_there_and_back s.a s.b) (λ z. h (second ∙ z)))
    (refuted (strictly_inside t.a s) (λ k. (inside_apart t.a s k).0 same)) (off_line t.b s (λ z. h (second ∙ z)))

-- one end, and the second's start off the line
pub join_parted : (s t : Edge) (m : ℤ) → is_same t.b s.b ≡ true → m ≡ turn s.a s.b t.a → m ≢ pos 0 → parted s t ≡ true
join_parted s t m e first h =
    let same : t.b ≡ s.b = same_is t.b s.b e in
    unbalanced_parted s t
    (other_off (turn s.a s.b t.a) (turn s.a s.b t.b) (λ z. h (first ∙ z)) (ap (λ p. turn s.a s.b p) same ∙ turn_end_twice s.a s.b))
    (off_line t.a s (λ z. h (first ∙ z))) (refuted (strictly_inside t.b s) (λ k. (inside_apart t.b s k).1 same))
