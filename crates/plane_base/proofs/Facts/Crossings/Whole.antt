-- Crossings at whole points: what is whole, and the marks that are laid there.
--
-- Above, cite `whole_is_point` and `whole_marks_stay`.
use Rattle.std.proofs.Common.{◌≡◌, ◌≢◌, ℕ, ◌<◌, Bool, true, false, cond, pos, ◌*ℤ◌, List, [], ◌∷◌, ◌||◌, ⊎_elim, refl, sym, ap, ap₂, subst, ◌∙◌}
use Rattle.std.specs.Prelude.{unsigned_abs}
use Rattle.std.specs.Ordering.{int_eq, is_gt, is_eq}
use Rattle.std.proofs.lemmas.Bool.{false≢true}
use Rattle.std.proofs.lemmas.Bool.Decides.{Decides-int_eq}
use Rattle.plane_base.specs.Plane.{Point, Edge, RationalPoint, scaled, numerators, turn, is_before, point_order, edge_order}
use Rattle.plane_base.specs.Segments.{strictly_inside, cross_properly}
use Rattle.plane_base.specs.Crossing.{rounded, is_whole, mean, crossing, Meeting, pure, crossed, touching, cross_meeting, late_meeting, Marks, exchanged, unless_end, laid_by, cross_marks, late_marks}
use Rattle.plane_base.specs.MarkingLaws.{both_at}
use Rattle.plane_base.specs.WholeLaws.{WholeIsPoint, MeetsWhole, AreInside, WholeMarksStay}
use Rattle.plane_base.proofs.Facts.Points.Orders.{before_is_less}
use Rattle.plane_base.proofs.Facts.Crossings.Tests.{both_true, ends_apart, inside_apart}
use Rattle.plane_base.proofs.Facts.Numbers.Rounding.{nearest_whole}
use Rattle.plane_base.proofs.Facts.Crossings.Place.{crossing_swapped, crossing_is_common, mean_on_line, after_first, before_second}
use Rattle.plane_base.proofs.Facts.Crossings.Marks.{all_unless_end, touching_lays, inside_all, proper_swapped, end_tells}
use Rattle.plane_base.proofs.Facts.Crossings.MarkLaws.{either, early_by, late_by}
use Rattle.plane_base.proofs.Facts.Columns.Parted.{IsBetween, end_between}
use Rattle.plane_base.proofs.Facts.Crossings.Parted.{not_swapped}

-- ---- whole points

pub whole_tells : (p : RationalPoint) → is_whole p ≡ true → scaled p.q (rounded p) ≡ numerators p
whole_tells p e =
    let h = both_true (int_eq (pos p.q *ℤ (rounded p).x) p.x) (int_eq (pos p.q *ℤ (rounded p).y) p.y) e in
    let x = (Decides-int_eq (pos p.q *ℤ (rounded p).x) p.x).0 h.0 in
    let y = (Decides-int_eq (pos p.q *ℤ (rounded p).y) p.y).0 h.1 in
    λ i. record { x = x i; y = y i }

pub whole_from : (p : RationalPoint) → scaled p.q (rounded p) ≡ numerators p → is_whole p ≡ true
whole_from p e =
    let x : int_eq (pos p.q *ℤ (rounded p).x) p.x ≡ true = (Decides-int_eq (pos p.q *ℤ (rounded p).x) p.x).1 (ap (λ z. z.x) e) in
    let y : int_eq (pos p.q *ℤ (rounded p).y) p.y ≡ true = (Decides-int_eq (pos p.q *ℤ (rounded p).y) p.y).1 (ap (λ z. z.y) e) in
    rw (x, y) refl

pub whole_only : (p : RationalPoint) (w : Point) → 0 < p.q → scaled p.q w ≡ numerators p → rounded p ≡ w
whole_only p w some e =
    let x = nearest_whole p.x w.x p.q some (ap (λ z. z.x) e) in
    let y = nearest_whole p.y w.y p.q some (ap (λ z. z.y) e) in
    λ i. record { x = x i; y = y i }

pub whole_is_point : WholeIsPoint
whole_is_point = record {
  test = λ p. (whole_tells p, whole_from p);
  point = λ p some. ((λ e. (rounded p, whole_tells p e)), (λ h. whole_from p (ap (scaled p.q) (whole_only p h.0 some h.1) ∙ h.1)));
  only = whole_only;
}

-- ---- a proper crossing lies strictly between the ends of both

mean_between_ends : (s : Edge) (u v : ℕ) → 0 < u → 0 < v → is_before s.a s.b ≡ true → IsBetween (mean s u v) s
mean_between_ends s u v some more h = record {
  flat = mean_on_line s u v;
  after = rw (after_first s.a.x s.b.x u v some, after_first s.a.y s.b.y u v some) (before_is_less s.a s.b h);
  before = rw (before_second s.a.x s.b.x u v more, before_second s.a.y s.b.y u v more) (before_is_less s.a s.b h);
}

pub crossing_inside : (s t : Edge) → is_before s.a s.b ≡ true → cross_properly s t ≡ true → IsBetween (crossing s t) s
crossing_inside s t h e = mean_between_ends s (unsigned_abs (turn t.a t.b s.a)) (unsigned_abs (turn t.a t.b s.b)) (ends_apart s t e).0 (ends_apart s t e).1 h

pub crossing_inside_other : (s t : Edge) → is_before t.a t.b ≡ true → cross_properly s t ≡ true → IsBetween (crossing s t) t
crossing_inside_other s t h e = let P : RationalPoint → Type 0 = λ p. IsBetween p t in subst P (sym (crossing_swapped s t e)) (crossing_inside t s h (proper_swapped s t e))

-- ---- marks

whole_inside : (s : Edge) (p : RationalPoint) → 0 < p.q → IsBetween p s → is_whole p ≡ true → strictly_inside (rounded p) s ≡ true
whole_inside s p some h e = end_between p s (rounded p) some h (sym (whole_tells p e))

meeting_same : (s t : Edge) (radius : ℕ) → MeetsWhole s t → cross_meeting s t radius ≡ late_meeting s t
meeting_same s t radius h = by (cross_properly s t) refl
  where
    crossed_same : is_whole (crossing s t) ≡ true → crossed s t radius ≡ pure (rounded (crossing s t))
    crossed_same e = rw e refl

    by : (b : Bool) → cross_properly s t ≡ b → cond b (crossed s t radius) (touching s t) ≡ cond b (pure (rounded (crossing s t))) (touching s t)
    by true e = crossed_same (h e)
    by false e = refl

swapped : (s t : Edge) → MeetsWhole s t → MeetsWhole t s
swapped s t h e = let f = proper_swapped t s e in ap is_whole (crossing_swapped t s e) ∙ h f

same : (s t : Edge) (radius : ℕ) → MeetsWhole s t → cross_marks s t radius ≡ late_marks s t
same s t radius h =
    let f : Meeting → Meeting → Marks = λ m n. cond (is_gt (edge_order s t)) (exchanged (laid_by t s m)) (laid_by s t n) in
    ap₂ f (meeting_same t s radius (swapped s t h)) (meeting_same s t radius h)

inside_touching : (s t : Edge) → AreInside s t (laid_by s t (touching s t))
inside_touching s t =
    let h = touching_lays (λ p. strictly_inside p s ≡ true) (λ p. strictly_inside p t ≡ true) s t (inside_all (λ p. strictly_inside p s ≡ true) s t (λ p e. e)) (inside_all (λ p. strictly_inside p t ≡ true) t s (λ p e. e)) in
    record { first = h.0; second = h.1 }

inside_swapped : (s t : Edge) (m : Marks) → AreInside t s m → AreInside s t (exchanged m)
inside_swapped s t m h = record { first = h.second; second = h.first }

module _ (s t : Edge) (forward : is_before s.a s.b ≡ true) (other_forward : is_before t.a t.b ≡ true) where
  pub whole_in_both : cross_properly s t ≡ true → is_whole (crossing s t) ≡ true → (strictly_inside (rounded (crossing s t)) s ≡ true) × (strictly_inside (rounded (crossing s t)) t ≡ true)
  whole_in_both e f =
      let some = crossing_is_common.is_rational s t e in
      (whole_inside s (crossing s t) some (crossing_inside s t forward e) f, whole_inside t (crossing s t) some (crossing_inside_other s t other_forward e) f)

  inside_late : MeetsWhole s t → AreInside s t (laid_by s t (late_meeting s t))
  inside_late h = late_by (λ m. AreInside s t (laid_by s t m)) s t (λ e. crossed_inside e) (λ e. inside_touching s t)
    where
      crossed_inside : cross_properly s t ≡ true → AreInside s t (laid_by s t (pure (rounded (crossing s t))))
      crossed_inside e =
          let k = whole_in_both e (h e) in
          record { first = all_unless_end (λ p. strictly_inside p s ≡ true) s (rounded (crossing s t)) (λ f. k.0); second = all_unless_end (λ p. strictly_inside p t ≡ true) t (rounded (crossing s t)) (λ f. k.1) }

inside : (s t : Edge) (radius : ℕ) → is_before s.a s.b ≡ true → is_before t.a t.b ≡ true → MeetsWhole s t → AreInside s t (cross_marks s t radius)
inside s t radius f g h = rw (same s t radius h) (either late_meeting (AreInside s t) s t (inside_swapped s t _ (inside_late t s g f (swapped s t h))) (inside_late s t f g h))

touching_inside : (s t : Edge) (radius : ℕ) → cross_properly s t ≡ false → AreInside s t (laid_by s t (cross_meeting s t radius))
touching_inside s t radius e = early_by (λ m. AreInside s t (laid_by s t m)) s t radius (λ f. absurd (false≢true (sym e ∙ f))) (λ f. inside_touching s t)

touching_stays : (s t : Edge) (radius : ℕ) → cross_properly s t ≡ false → AreInside s t (cross_marks s t radius)
touching_stays s t radius e = either (λ s t. cross_meeting s t radius) (AreInside s t) s t (inside_swapped s t _ (touching_inside t s radius (not_swapped s t e))) (touching_inside s t radius e)

-- ---- both are marked at a whole crossing

pub unless_no_end : (s : Edge) (p : Point) → p ≢ s.a → p ≢ s.b → unless_end s p ≡ p ∷ []
unless_no_end s p h k = by (is_eq (point_order p s.a) || is_eq (point_order p s.b)) refl
  where
    by : (b : Bool) → is_eq (point_order p s.a) || is_eq (point_order p s.b) ≡ b → cond b [] (p ∷ []) ≡ p ∷ []
    by true f = absurd (⊎_elim h k (end_tells s p f))
    by false f = refl

unless_inside : (s : Edge) (p : Point) → strictly_inside p s ≡ true → unless_end s p ≡ p ∷ []
unless_inside s p e = unless_no_end s p (inside_apart p s e).0 (inside_apart p s e).1

pub laid_both : (s t : Edge) (radius : ℕ) → is_before s.a s.b ≡ true → is_before t.a t.b ≡ true → cross_properly s t ≡ true → is_whole (crossing s t) ≡ true → laid_by s t (cross_meeting s t radius) ≡ both_at (rounded (crossing s t))
laid_both s t radius f g e h =
    let k = whole_in_both s t f g e h in
    let p = rounded (crossing s t) in
    let m : cross_meeting s t radius ≡ pure p = rw (e, h) refl in
    let marked : List Point → List Point → Marks = λ x y. record { first = x; second = y } in
    ap (laid_by s t) m ∙ ap₂ marked (unless_inside s p k.0) (unless_inside t p k.1)

both_marked : (s t : Edge) (radius : ℕ) → is_before s.a s.b ≡ true → is_before t.a t.b ≡ true → cross_properly s t ≡ true → is_whole (crossing s t) ≡ true → cross_marks s t radius ≡ both_at (rounded (crossing s t))
both_marked s t radius f g e h =
    either (λ s t. cross_meeting s t radius) (λ m. m ≡ both_at (rounded (crossing s t))) s t
    (ap exchanged (laid_both t s radius g f (proper_swapped s t e) (swapped s t (λ k. h) (proper_swapped s t e)) ∙ ap (λ p. both_at (rounded p)) (sym (crossing_swapped s t e))))
    (laid_both s t radius f g e h)

pub whole_marks_stay : WholeMarksStay
whole_marks_stay = record { swapped = swapped; same = same; inside = inside; touching = touching_stays; crossing = both_marked }
