-- The cases of what is laid on a pair.
--
-- Above, cite `marks_by_case`.
use Rattle.std.proofs.Common.{◌≡◌, ◌≢◌, ℕ, Bool, true, false, cond, ◌++◌, ℤ, pos, ◌≤ℤ◌, ◌<ℤ◌, List, [], ◌∷◌, ◌⊎◌, inl, inr, ⊎_elim, refl, sym, ap, ap₂, subst, ◌∙◌, arith}
use Rattle.std.specs.Prelude.{int_lt, int_le}
use Rattle.std.specs.declared.cmp.Ordering.{Ordering}
use Rattle.std.specs.declared.cmp.Ordering.TheVariants.{Less, Equal, Greater}
use Rattle.std.specs.Ordering.{int_eq, is_gt}
use Rattle.std.proofs.lemmas.Int.{ints}
use Rattle.std.proofs.lemmas.Bool.{false≢true}
use Rattle.std.proofs.lemmas.Bool.Decides.{Decides-int_eq}
use Rattle.plane_base.specs.Plane.{Point, Edge, RationalPoint, turn, is_before, point_order, edge_order}
use Rattle.plane_base.specs.Segments.{squared_distance, strictly_inside, ends_inside, cross_properly, on_one_line}
use Rattle.plane_base.specs.Crossing.{rounded, rounded_along, is_whole, crossing, Meeting, pure, target_end, other_end, nearer, snapped, least_of, overlaid, at_end, touching, cross_meeting, late_meeting, Marks, exchanged, unless_end, laid_by, cross_marks, late_marks}
use Rattle.plane_base.specs.MarkingLaws.{both_at, lesser_edge, IsAtMostOne, none, in_first, in_second, IsOneEnd, IsCrossed, whole, at_first, at_second, afar, MarksByCase}
use Rattle.plane_base.proofs.Facts.Points.Orders.{point_total, point_equal, less_apart, less_from_greater, before_is_less}
use Rattle.plane_base.proofs.Facts.Points.Turns.{turn_there_and_back, turn_end_twice}
use Rattle.plane_base.proofs.Facts.Crossings.Tests.{inside_tells, inside_apart}
use Rattle.plane_base.proofs.Facts.Crossings.Place.{crossing_swapped}
use Rattle.plane_base.proofs.Facts.Crossings.Marks.{proper_swapped}
use Rattle.plane_base.proofs.Facts.Crossings.MarkLaws.{either}
use Rattle.plane_base.proofs.Facts.Columns.Order.{before_of_order}
use Rattle.plane_base.proofs.Facts.Crossings.Whole.{laid_both, unless_no_end}
use Rattle.plane_base.proofs.Facts.Numbers.Polynomials.{var, const, plus, minus, times, by_ring}
use Rattle.plane_base.proofs.Facts.Crossings.Pieces.{three_on_line}
use Rattle.plane_base.proofs.Facts.Crossings.Parted.{not_swapped}

-- ---- two points on both lines

aligned : (s t : Edge) → turn s.a s.b t.a ≡ pos 0 → turn s.a s.b t.b ≡ pos 0 → turn t.a t.b s.a ≡ pos 0 → turn t.a t.b s.b ≡ pos 0 → on_one_line s t ≡ true
aligned s t e f g h =
    let i : int_eq (turn s.a s.b t.a) (pos 0) ≡ true = (Decides-int_eq (turn s.a s.b t.a) (pos 0)).1 e in
    let j : int_eq (turn s.a s.b t.b) (pos 0) ≡ true = (Decides-int_eq (turn s.a s.b t.b) (pos 0)).1 f in
    let k : int_eq (turn t.a t.b s.a) (pos 0) ≡ true = (Decides-int_eq (turn t.a t.b s.a) (pos 0)).1 g in
    let l : int_eq (turn t.a t.b s.b) (pos 0) ≡ true = (Decides-int_eq (turn t.a t.b s.b) (pos 0)).1 h in
    rw (i, j, k, l) refl

module _ (s t : Edge) (forward : is_before s.a s.b ≡ true) (other_forward : is_before t.a t.b ≡ true) where
  aligned_by : (p q : Point) → is_before p q ≡ true → turn s.a s.b p ≡ pos 0 → turn s.a s.b q ≡ pos 0 → turn t.a t.b p ≡ pos 0 → turn t.a t.b q ≡ pos 0 → on_one_line s t ≡ true
  aligned_by p q b sp sq tp tq =
      let sa = three_on_line s.a s.b p q s.a forward sp sq (turn_there_and_back s.a s.b) in
      let sb = three_on_line s.a s.b p q s.b forward sp sq (turn_end_twice s.a s.b) in
      let ta = three_on_line t.a t.b p q t.a other_forward tp tq (turn_there_and_back t.a t.b) in
      let tb = three_on_line t.a t.b p q t.b other_forward tp tq (turn_end_twice t.a t.b) in
      aligned s t (three_on_line p q s.a s.b t.a b sa sb ta) (three_on_line p q s.a s.b t.b b sa sb tb) (three_on_line p q t.a t.b s.a b ta tb sa) (three_on_line p q t.a t.b s.b b ta tb sb)

  aligned_by_two : (p q : Point) → p ≢ q → turn s.a s.b p ≡ pos 0 → turn s.a s.b q ≡ pos 0 → turn t.a t.b p ≡ pos 0 → turn t.a t.b q ≡ pos 0 → on_one_line s t ≡ true
  aligned_by_two p q differ sp sq tp tq = by (point_order p q) refl
    where
      by : (o : Ordering) → point_order p q ≡ o → on_one_line s t ≡ true
      by Less e = aligned_by p q (before_of_order p q e) sp sq tp tq
      by Equal e = absurd (differ (point_equal p q e))
      by Greater e = aligned_by q p (before_of_order q p (less_from_greater point_total p q e)) sq sp tq tp

-- the points of an edge's line that are known: its ends, and what lies strictly inside
own_a : (s : Edge) → turn s.a s.b s.a ≡ pos 0
own_a s = turn_there_and_back s.a s.b

own_b : (s : Edge) → turn s.a s.b s.b ≡ pos 0
own_b s = turn_end_twice s.a s.b

ends_apart : (s : Edge) → is_before s.a s.b ≡ true → s.a ≢ s.b
ends_apart s h = less_apart point_total s.a s.b (before_is_less s.a s.b h)

pub one_end : (s t : Edge) → is_before s.a s.b ≡ true → is_before t.a t.b ≡ true → on_one_line s t ≡ false → IsAtMostOne (ends_inside s t) (ends_inside t s)
one_end s t h k apart = by (strictly_inside t.a s) (strictly_inside t.b s) (strictly_inside s.a t) (strictly_inside s.b t) refl refl refl refl
  where
    refused : {A : Type 0} → on_one_line s t ≡ true → A
    refused e = absurd (false≢true (sym apart ∙ e))

    -- an end p of t inside s, and an end q of s inside t
    crosswise : (p q : Point) {A : Type 0} → strictly_inside p s ≡ true → turn t.a t.b p ≡ pos 0 → (q ≡ s.a) ⊎ (q ≡ s.b) → turn s.a s.b q ≡ pos 0 → strictly_inside q t ≡ true → A
    crosswise p q e tp end sq f =
        refused (aligned_by_two s t h k p q (λ g. ⊎_elim (λ i. (inside_apart p s e).0 (g ∙ i)) (λ i. (inside_apart p s e).1 (g ∙ i)) end) (inside_tells p s e).0 sq tp (inside_tells q t f).0)

    by : (i j m n : Bool) → strictly_inside t.a s ≡ i → strictly_inside t.b s ≡ j → strictly_inside s.a t ≡ m → strictly_inside s.b t ≡ n
        → IsAtMostOne (cond i (t.a ∷ cond j (t.b ∷ []) []) (cond j (t.b ∷ []) [])) (cond m (s.a ∷ cond n (s.b ∷ []) []) (cond n (s.b ∷ []) []))
    by true true m n e f g l = refused (aligned_by_two s t h k t.a t.b (ends_apart t k) (inside_tells t.a s e).0 (inside_tells t.b s f).0 (own_a t) (own_b t))
    by true false true n e f g l = crosswise t.a s.a e (own_a t) (inl refl) (own_a s) g
    by true false false true e f g l = crosswise t.a s.b e (own_a t) (inr refl) (own_b s) l
    by true false false false e f g l = in_first t.a refl refl
    by false true true n e f g l = crosswise t.b s.a f (own_b t) (inl refl) (own_a s) g
    by false true false true e f g l = crosswise t.b s.b f (own_b t) (inr refl) (own_b s) l
    by false true false false e f g l = in_first t.b refl refl
    by false false true true e f g l = refused (aligned_by_two s t h k s.a s.b (ends_apart s h) (own_a s) (own_b s) (inside_tells s.a t g).0 (inside_tells s.b t l).0)
    by false false true false e f g l = in_second s.a refl refl
    by false false false true e f g l = in_second s.b refl refl
    by false false false false e f g l = none refl refl

-- ---- no proper crossing

abbrev inside_both : Edge → Edge → Marks
inside_both s t = record { first = ends_inside s t; second = ends_inside t s }

touching_is : (s t : Edge) → is_before s.a s.b ≡ true → is_before t.a t.b ≡ true → laid_by s t (touching s t) ≡ inside_both s t
touching_is s t h k = by (on_one_line s t) refl
  where
    listed : List Point → List Point → Marks
    listed xs ys = record { first = xs; second = ys }

    on_line : (xs ys : List Point) → ends_inside s t ≡ xs → ends_inside t s ≡ ys → laid_by s t (overlaid (least_of (xs ++ ys))) ≡ inside_both s t
    on_line [] [] e f = ap₂ listed (sym e) (sym f)
    on_line [] (y ∷ ys) e f = refl
    on_line (x ∷ xs) ys e f = refl

    off_line : (xs ys : List Point) → ends_inside s t ≡ xs → ends_inside t s ≡ ys → IsAtMostOne xs ys → laid_by s t (at_end xs ys) ≡ listed xs ys
    off_line xs ys e f (none g l) = rw (g, l) refl
    off_line xs ys e f (in_first p g l) = rw (g, l) refl
    off_line xs ys e f (in_second p g l) = rw (g, l) refl

    by : (b : Bool) → on_one_line s t ≡ b → laid_by s t (cond b (overlaid (least_of (ends_inside s t ++ ends_inside t s))) (at_end (ends_inside s t) (ends_inside t s))) ≡ inside_both s t
    by true e = on_line (ends_inside s t) (ends_inside t s) refl refl
    by false e = off_line (ends_inside s t) (ends_inside t s) refl refl (one_end s t h k e)

touching_met : (s t : Edge) (radius : ℕ) → is_before s.a s.b ≡ true → is_before t.a t.b ≡ true → cross_properly s t ≡ false → laid_by s t (cross_meeting s t radius) ≡ inside_both s t
touching_met s t radius h k e = let f : cross_meeting s t radius ≡ touching s t = rw e refl in ap (laid_by s t) f ∙ touching_is s t h k

touching_met_late : (s t : Edge) → is_before s.a s.b ≡ true → is_before t.a t.b ≡ true → cross_properly s t ≡ false → laid_by s t (late_meeting s t) ≡ inside_both s t
touching_met_late s t h k e = let f : late_meeting s t ≡ touching s t = rw e refl in ap (laid_by s t) f ∙ touching_is s t h k

-- ---- a proper crossing

-- the nearer end is no farther than either
nearer_least : (p : Point) (s : Edge) (e : Point) → (e ≡ s.a) ⊎ (e ≡ s.b) → squared_distance p (nearer p s) ≤ℤ squared_distance p e
nearer_least p s e h = by (int_lt (squared_distance p s.b) (squared_distance p s.a)) refl h
  where
    level : (x y : ℤ) → x ≡ y → y ≤ℤ x
    level x y e = omega (arith, ints)

    before : (x y : ℤ) → int_lt x y ≡ true → x ≤ℤ y
    before x y e = omega (arith, ints)

    after : (x y : ℤ) → int_lt x y ≡ false → y ≤ℤ x
    after x y e = omega (arith, ints)

    up_to : (x y z : ℤ) → x ≤ℤ y → z ≡ y → x ≤ℤ z
    up_to x y z h e = omega (arith, ints)

    by : (b : Bool) → int_lt (squared_distance p s.b) (squared_distance p s.a) ≡ b → (e ≡ s.a) ⊎ (e ≡ s.b) → squared_distance p (cond b s.b s.a) ≤ℤ squared_distance p e
    by true f (inl g) = up_to _ _ _ (before _ _ f) (ap (squared_distance p) g)
    by true f (inr g) = level _ _ (ap (squared_distance p) g)
    by false f (inl g) = level _ _ (ap (squared_distance p) g)
    by false f (inr g) = up_to _ _ _ (after _ _ f) (ap (squared_distance p) g)

nearer_is : (p : Point) (s : Edge) → (nearer p s ≡ s.a) ⊎ (nearer p s ≡ s.b)
nearer_is p s = by (int_lt (squared_distance p s.b) (squared_distance p s.a))
  where
    by : (b : Bool) → (cond b s.b s.a ≡ s.a) ⊎ (cond b s.b s.a ≡ s.b)
    by true = inr refl
    by false = inl refl

no_distance : (p e : Point) → e ≡ p → squared_distance p e ≡ pos 0
no_distance p e h = ap (squared_distance p) h ∙ by_ring (p.x ∷ p.y ∷ []) (plus (times (minus (var 0) (var 0)) (minus (var 0) (var 0))) (times (minus (var 1) (var 1)) (minus (var 1) (var 1)))) (const (pos 0)) refl

-- beyond the radius of all ends both are marked
module _ (s t : Edge) (p : Point) (radius : ℕ) (beyond : (e : Point) → IsOneEnd e s t → pos radius <ℤ squared_distance p e) where
  no_end : (e : Point) → IsOneEnd e s t → p ≢ e
  no_end e h f = clash (squared_distance p e) (beyond e h) (no_distance p e (sym f))
    where
      clash : (x : ℤ) → pos radius <ℤ x → x ≡ pos 0 → ⊥
      clash x h e = absurd (omega (arith, ints))

  both_laid : laid_by s t (pure p) ≡ both_at p
  both_laid =
      let marked : List Point → List Point → Marks = λ x y. record { first = x; second = y } in
      ap₂ marked
      (unless_no_end s p (no_end s.a (inl (inl refl))) (no_end s.b (inl (inr refl))))
      (unless_no_end t p (no_end t.a (inr (inl refl))) (no_end t.b (inr (inr refl))))

-- what is found at a crossing off the grid
snapped_case : (u s t : Edge) (radius : ℕ) → is_whole (crossing s t) ≡ false → IsCrossed u s t radius (laid_by s t (snapped s t radius (rounded_along u (crossing s t))))
snapped_case u s t radius off = by (int_lt (squared_distance p f) (squared_distance p e)) (int_le (squared_distance p f) (pos radius)) (int_le (squared_distance p e) (pos radius)) refl refl refl
  where
    p : Point
    p = rounded_along u (crossing s t)

    e : Point
    e = nearer p s

    f : Point
    f = nearer p t

    near : (x : ℤ) → int_le x (pos radius) ≡ true → x ≤ℤ pos radius
    near x h = omega (arith, ints)

    far_first : (x y z : ℤ) → int_le x (pos radius) ≡ false → x ≤ℤ y → y ≤ℤ z → pos radius <ℤ z
    far_first x y z h k l = omega (arith, ints)

    less : (x y : ℤ) → int_lt x y ≡ true → x ≤ℤ y
    less x y h = omega (arith, ints)

    not_less : (x y : ℤ) → int_lt x y ≡ false → y ≤ℤ x
    not_less x y h = omega (arith, ints)

    itself : (x : ℤ) → x ≤ℤ x
    itself x = omega (arith, ints)

    by : (b c d : Bool) → int_lt (squared_distance p f) (squared_distance p e) ≡ b → int_le (squared_distance p f) (pos radius) ≡ c → int_le (squared_distance p e) (pos radius) ≡ d
        → IsCrossed u s t radius (laid_by s t (cond b (cond c (other_end f) (pure p)) (cond d (target_end e) (pure p))))
    by true true d g h k = at_second f off (nearer_is p t) (near _ h) refl
    by true false d g h k =
        let beyond : (z : Point) → IsOneEnd z s t → pos radius <ℤ squared_distance p z =
        λ z i. ⊎_elim (λ j. far_first _ _ _ h (less _ _ g) (nearer_least p s z j)) (λ j. far_first _ _ _ h (itself _) (nearer_least p t z j)) i in
        afar off beyond (both_laid s t p radius beyond)
    by false c true g h k = at_first e off (nearer_is p s) (near _ k) refl
    by false c false g h k =
        let beyond : (z : Point) → IsOneEnd z s t → pos radius <ℤ squared_distance p z =
        λ z i. ⊎_elim (λ j. far_first _ _ _ k (itself _) (nearer_least p s z j)) (λ j. far_first _ _ _ k (not_less _ _ g) (nearer_least p t z j)) i in
        afar off beyond (both_laid s t p radius beyond)

crossed_case : (s t : Edge) (radius : ℕ) → is_before s.a s.b ≡ true → is_before t.a t.b ≡ true → cross_properly s t ≡ true → IsCrossed s s t radius (laid_by s t (cross_meeting s t radius))
crossed_case s t radius h k e = by (is_whole (crossing s t)) refl
  where
    off_grid : is_whole (crossing s t) ≡ false → cross_meeting s t radius ≡ snapped s t radius (rounded_along s (crossing s t))
    off_grid f = rw (e, f) refl

    by : (b : Bool) → is_whole (crossing s t) ≡ b → IsCrossed s s t radius (laid_by s t (cross_meeting s t radius))
    by true f = whole f (laid_both s t radius h k e f)
    by false f = let P : Meeting → Type 0 = λ m. IsCrossed s s t radius (laid_by s t m) in subst P (sym (off_grid f)) (snapped_case s s t radius f)

-- the same with the two exchanged
crossed_swapped : (u s t : Edge) (radius : ℕ) (m : Marks) → crossing t s ≡ crossing s t → IsCrossed u t s radius m → IsCrossed u s t radius (exchanged m)
crossed_swapped u s t radius m same (whole h e) = whole (sym (ap is_whole same) ∙ h) (ap exchanged e ∙ ap (λ p. both_at (rounded p)) same)
crossed_swapped u s t radius m same (at_first e h k l f) =
    at_second e (sym (ap is_whole same) ∙ h) k (subst (λ (p : RationalPoint). squared_distance (rounded_along u p) e ≤ℤ pos radius) same l) (ap exchanged f)
crossed_swapped u s t radius m same (at_second e h k l f) =
    at_first e (sym (ap is_whole same) ∙ h) k (subst (λ (p : RationalPoint). squared_distance (rounded_along u p) e ≤ℤ pos radius) same l) (ap exchanged f)
crossed_swapped u s t radius m same (afar h k f) =
    afar (sym (ap is_whole same) ∙ h)
    (λ e l. subst (λ (p : RationalPoint). pos radius <ℤ squared_distance (rounded_along u p) e) same (k e (⊎_elim (λ i. inr i) (λ i. inl i) l)))
    (ap exchanged f ∙ ap (λ p. both_at (rounded_along u p)) same)

crossed_either : (s t : Edge) (radius : ℕ) → is_before s.a s.b ≡ true → is_before t.a t.b ≡ true → cross_properly s t ≡ true → IsCrossed (lesser_edge s t) s t radius (cross_marks s t radius)
crossed_either s t radius h k e = by (is_gt (edge_order s t))
  where
    by : (b : Bool) → IsCrossed (cond b t s) s t radius (cond b (exchanged (laid_by t s (cross_meeting t s radius))) (laid_by s t (cross_meeting s t radius)))
    by true = crossed_swapped t s t radius _ (sym (crossing_swapped s t e)) (crossed_case t s radius k h (proper_swapped s t e))
    by false = crossed_case s t radius h k e

pub crossed_late : (s t : Edge) → cross_properly s t ≡ true → late_marks s t ≡ record { first = unless_end s (rounded (crossing s t)); second = unless_end t (rounded (crossing s t)) }
crossed_late s t e =
    either late_meeting (λ m. m ≡ record { first = unless_end s (rounded (crossing s t)); second = unless_end t (rounded (crossing s t)) }) s t
    (ap exchanged (met t s (proper_swapped s t e)) ∙ ap (λ p. record { first = unless_end s (rounded p); second = unless_end t (rounded p) }) (sym (crossing_swapped s t e)))
    (met s t e)
  where
    met : (s t : Edge) → cross_properly s t ≡ true → laid_by s t (late_meeting s t) ≡ record { first = unless_end s (rounded (crossing s t)); second = unless_end t (rounded (crossing s t)) }
    met s t e = let f : late_meeting s t ≡ pure (rounded (crossing s t)) = rw e refl in ap (laid_by s t) f

-- ---- the law

pub marks_by_case : MarksByCase
marks_by_case = record {
  touching = λ s t radius h k e. either (λ s t. cross_meeting s t radius) (λ m. m ≡ inside_both s t) s t (ap exchanged (touching_met t s radius k h (not_swapped s t e))) (touching_met s t radius h k e);
  touching_late = λ s t h k e. either late_meeting (λ m. m ≡ inside_both s t) s t (ap exchanged (touching_met_late t s k h (not_swapped s t e))) (touching_met_late s t h k e);
  one_end = one_end;
  crossed = crossed_either;
  crossed_late = crossed_late;
}
