-- A pair marks nothing exactly where it is parted, and one that marks has boxes that meet.
--
-- Above, cite `mark_unless_parted` and `marks_need_boxes_that_meet`, with `parted_tells`, `parted_from` and `parted_swapped` on what
-- parted segments are.
use Rattle.std.proofs.Common.{◌≡◌, ◌≢◌, ◌↔◌, ℕ, Bool, true, false, cond, not, ◌&&◌, List, [], ◌∷◌, ◌++◌, refl, sym, ap, ◌∙◌}
use Rattle.std.proofs.lemmas.Bool.{false≢true}
use Rattle.plane_base.specs.Plane.{Point, Edge}
use Rattle.plane_base.specs.Segments.{strictly_inside, ends_inside, cross_properly, on_one_line, parted, MeetsInEnds}
use Rattle.plane_base.specs.Crossing.{apart, target_end, crossed, crossing, least_of, overlaid, at_end, touching, cross_meeting, late_meeting, Marks, no_marks, exchanged, laid_by, cross_marks, late_marks}
use Rattle.plane_base.specs.CrossingLaws.{InBox, BoxesMeet, IsUnmarked, MarkUnlessParted, MarksNeedBoxesThatMeet}
use Rattle.plane_base.proofs.Facts.Crossings.Tests.{both_true, not_true}
use Rattle.plane_base.proofs.Facts.Crossings.Place.{crossing_boxed, crossing_boxed_other, end_a_boxed, end_b_boxed, whole_boxed, inside_boxed, boxes_meet}
use Rattle.plane_base.proofs.Facts.Crossings.Marks.{proper_swapped, pure_marks, target_end_marks, other_end_marks, crossed_by}
use Rattle.plane_base.proofs.Facts.Crossings.MarkLaws.{either, early_by, late_by}

-- ---- no ends inside, no marks

pub none_inside : (s t : Edge) → strictly_inside t.a s ≡ false → strictly_inside t.b s ≡ false → ends_inside s t ≡ []
none_inside s t e f = rw (e, f) refl

pub inside_none : (s t : Edge) → ends_inside s t ≡ [] → (strictly_inside t.a s ≡ false) × (strictly_inside t.b s ≡ false)
inside_none s t e = by (strictly_inside t.a s) (strictly_inside t.b s) e
  where
    by : (b c : Bool) → cond b (t.a ∷ cond c (t.b ∷ []) []) (cond c (t.b ∷ []) []) ≡ [] → (b ≡ false) × (c ≡ false)
    by true c e = absurd (cc)
    by false true e = absurd (cc)
    by false false e = (refl, refl)

touching_none : (s t : Edge) → ends_inside s t ≡ [] → ends_inside t s ≡ [] → touching s t ≡ apart
touching_none s t = by (on_one_line s t) (ends_inside s t) (ends_inside t s)
  where
    by : (b : Bool) (xs ys : List Point) → xs ≡ [] → ys ≡ [] → cond b (overlaid (least_of (xs ++ ys))) (at_end xs ys) ≡ apart
    by true [] [] e f = refl
    by false [] [] e f = refl
    by b [] (y ∷ ys) e f = absurd (cc)
    by b (x ∷ xs) ys e f = absurd (cc)

touching_some : (s t : Edge) → laid_by s t (touching s t) ≡ no_marks → (ends_inside s t ≡ []) × (ends_inside t s ≡ [])
touching_some s t = by (on_one_line s t) (ends_inside s t) (ends_inside t s) refl refl
  where
    by : (b : Bool) (xs ys : List Point) → ends_inside s t ≡ xs → ends_inside t s ≡ ys → laid_by s t (cond b (overlaid (least_of (xs ++ ys))) (at_end xs ys)) ≡ no_marks → (xs ≡ []) × (ys ≡ [])
    by b [] [] f g e = (refl, refl)
    by true [] (y ∷ ys) f g e = let h : ends_inside t s ≡ [] = ap (λ (m : Marks). m.second) e in absurd (clash y ys (sym g ∙ h))
      where
        clash : (y : Point) (ys : List Point) → y ∷ ys ≡ [] → ⊥
        clash y ys e = absurd (cc)
    by true (x ∷ xs) ys f g e = let h : ends_inside s t ≡ [] = ap (λ (m : Marks). m.first) e in absurd (clash x xs (sym f ∙ h))
      where
        clash : (y : Point) (ys : List Point) → y ∷ ys ≡ [] → ⊥
        clash y ys e = absurd (cc)
    by false [] (y ∷ ys) f g e = absurd (other_marks y e)
      where
        other_marks : (y : Point) → laid_by s t (target_end y) ≢ no_marks
        other_marks y e = target_end_marks s t y e
    by false (x ∷ xs) ys f g e = absurd (other_end_marks s t x e)

-- ---- parted

pub parted_from : (s t : Edge) → cross_properly s t ≡ false → ends_inside s t ≡ [] → ends_inside t s ≡ [] → parted s t ≡ true
parted_from s t c e f =
    let h = inside_none s t e in
    let k = inside_none t s f in
    rw (c, h.0, h.1, k.0, k.1) refl

-- what parted segments are
pub record AreParted (s t : Edge) : Type 0 where
  pub not_proper : cross_properly s t ≡ false
  pub first_end : strictly_inside t.a s ≡ false
  pub second_end : strictly_inside t.b s ≡ false
  pub own_first : strictly_inside s.a t ≡ false
  pub own_second : strictly_inside s.b t ≡ false

pub parted_tells : (s t : Edge) → parted s t ≡ true → AreParted s t
parted_tells s t e =
    let h = both_true (not (cross_properly s t)) ((not (strictly_inside t.a s) && not (strictly_inside t.b s)) && (not (strictly_inside s.a t) && not (strictly_inside s.b t))) e in
    let k = both_true (not (strictly_inside t.a s) && not (strictly_inside t.b s)) (not (strictly_inside s.a t) && not (strictly_inside s.b t)) h.1 in
    let l = both_true (not (strictly_inside t.a s)) (not (strictly_inside t.b s)) k.0 in
    let m = both_true (not (strictly_inside s.a t)) (not (strictly_inside s.b t)) k.1 in
    record { not_proper = not_true _ h.0; first_end = not_true _ l.0; second_end = not_true _ l.1; own_first = not_true _ m.0; own_second = not_true _ m.1 }

pub not_swapped : (s t : Edge) → cross_properly s t ≡ false → cross_properly t s ≡ false
not_swapped s t e = by (cross_properly t s) refl
  where
    by : (b : Bool) → cross_properly t s ≡ b → b ≡ false
    by true f = absurd (false≢true (sym e ∙ proper_swapped t s f))
    by false f = refl

pub parted_swapped : (s t : Edge) → parted s t ≡ true → parted t s ≡ true
parted_swapped s t e =
    let h = parted_tells s t e in
    parted_from t s (not_swapped s t h.not_proper) (none_inside t s h.own_first h.own_second) (none_inside s t h.first_end h.second_end)

-- ---- the law

abbrev Tells : Edge → Edge → Marks → Type 0
Tells s t m = (m ≡ no_marks) ↔ (parted s t ≡ true)

crossed_marks : (s t : Edge) (radius : ℕ) → cross_properly s t ≡ true → laid_by s t (crossed s t radius) ≢ no_marks
crossed_marks s t radius e =
    crossed_by (λ m. laid_by s t m ≢ no_marks) s t radius (pure_marks s t e _) (pure_marks s t e _) (λ p h. target_end_marks s t p) (λ p h. other_end_marks s t p)

proper_tells : (s t : Edge) (m : Marks) → cross_properly s t ≡ true → m ≢ no_marks → Tells s t m
proper_tells s t m c h = ((λ e. absurd (h e)), (λ e. absurd (false≢true (sym (parted_tells s t e).not_proper ∙ c))))

touching_tells : (s t : Edge) → cross_properly s t ≡ false → Tells s t (laid_by s t (touching s t))
touching_tells s t c = (
  (λ e. let h = touching_some s t e in parted_from s t c h.0 h.1),
  (λ e. let h = parted_tells s t e in ap (laid_by s t) (touching_none s t (none_inside s t h.first_end h.second_end) (none_inside t s h.own_first h.own_second))),
)

early_tells : (s t : Edge) (radius : ℕ) → Tells s t (laid_by s t (cross_meeting s t radius))
early_tells s t radius = early_by (λ m. Tells s t (laid_by s t m)) s t radius (λ e. proper_tells s t _ e (crossed_marks s t radius e)) (touching_tells s t)

late_tells : (s t : Edge) → Tells s t (laid_by s t (late_meeting s t))
late_tells s t = late_by (λ m. Tells s t (laid_by s t m)) s t (λ e. proper_tells s t _ e (pure_marks s t e _)) (touching_tells s t)

tells_swapped : (s t : Edge) (m : Marks) → Tells t s m → Tells s t (exchanged m)
tells_swapped s t m h = ((λ e. parted_swapped t s (h.0 (ap exchanged e))), (λ e. ap exchanged (h.1 (parted_swapped s t e))))

early_unless_parted : (s t : Edge) (radius : ℕ) → (cross_marks s t radius ≡ no_marks) ↔ (parted s t ≡ true)
early_unless_parted s t radius = either (λ s t. cross_meeting s t radius) (Tells s t) s t (tells_swapped s t _ (early_tells t s radius)) (early_tells s t radius)

late_unless_parted : (s t : Edge) → (late_marks s t ≡ no_marks) ↔ (parted s t ≡ true)
late_unless_parted s t = either late_meeting (Tells s t) s t (tells_swapped s t _ (late_tells t s)) (late_tells s t)

list_unless_parted : (marks : Edge → Edge → Marks) (es : List Edge) → ((s t : Edge) → (marks s t ≡ no_marks) ↔ (parted s t ≡ true)) → IsUnmarked marks es ↔ MeetsInEnds es
list_unless_parted marks es each = ((λ h s t m n differ. (each s t).0 (h s t m n differ)), (λ h s t m n differ. (each s t).1 (h s t m n differ)))

pub mark_unless_parted : MarkUnlessParted
mark_unless_parted = record {
  early = early_unless_parted;
  late = late_unless_parted;
  early_list = λ es radius. list_unless_parted (λ s t. cross_marks s t radius) es (λ s t. early_unless_parted s t radius);
  late_list = λ es. list_unless_parted late_marks es late_unless_parted;
}

-- ---- the meeting of parted segments

pub parted_of_apart : (s t : Edge) (radius : ℕ) → cross_meeting s t radius ≡ apart → parted s t ≡ true
parted_of_apart s t radius e = (early_tells s t radius).0 (ap (laid_by s t) e)

pub late_parted_of_apart : (s t : Edge) → late_meeting s t ≡ apart → parted s t ≡ true
late_parted_of_apart s t e = (late_tells s t).0 (ap (laid_by s t) e)

touching_apart : (s t : Edge) → parted s t ≡ true → touching s t ≡ apart
touching_apart s t e =
    let h = parted_tells s t e in
    touching_none s t (none_inside s t h.first_end h.second_end) (none_inside t s h.own_first h.own_second)

pub apart_of_parted : (s t : Edge) (radius : ℕ) → parted s t ≡ true → cross_meeting s t radius ≡ apart
apart_of_parted s t radius e =
    early_by (λ m. m ≡ apart) s t radius (λ c. absurd (false≢true (sym (parted_tells s t e).not_proper ∙ c))) (λ c. touching_apart s t e)

pub late_apart_of_parted : (s t : Edge) → parted s t ≡ true → late_meeting s t ≡ apart
late_apart_of_parted s t e =
    late_by (λ m. m ≡ apart) s t (λ c. absurd (false≢true (sym (parted_tells s t e).not_proper ∙ c))) (λ c. touching_apart s t e)

-- ---- boxes meet

proper_meet : (s t : Edge) → cross_properly s t ≡ true → BoxesMeet s t
proper_meet s t e = boxes_meet (crossing s t) s t (crossing_boxed s t e) (crossing_boxed_other s t e (proper_swapped s t e))

-- an end of t that lies strictly inside s
end_meet : (s t : Edge) (p : Point) → strictly_inside p s ≡ true → InBox p t → BoxesMeet s t
end_meet s t p e h = boxes_meet _ s t (whole_boxed p s (inside_boxed p s e)) (whole_boxed p t h)

meet_swapped : (s t : Edge) → BoxesMeet t s → BoxesMeet s t
meet_swapped s t h = record { left = h.right; right = h.left; bottom = h.top; top = h.bottom }

pub unparted_meet : (s t : Edge) → parted s t ≢ true → BoxesMeet s t
unparted_meet s t h = by (cross_properly s t) (strictly_inside t.a s) (strictly_inside t.b s) (strictly_inside s.a t) (strictly_inside s.b t) refl refl refl refl refl
  where
    by : (c i j k l : Bool) → cross_properly s t ≡ c → strictly_inside t.a s ≡ i → strictly_inside t.b s ≡ j → strictly_inside s.a t ≡ k → strictly_inside s.b t ≡ l → BoxesMeet s t
    by true i j k l e f g m n = proper_meet s t e
    by false true j k l e f g m n = end_meet s t t.a f (end_a_boxed t)
    by false false true k l e f g m n = end_meet s t t.b g (end_b_boxed t)
    by false false false true l e f g m n = meet_swapped s t (end_meet t s s.a m (end_a_boxed s))
    by false false false false true e f g m n = meet_swapped s t (end_meet t s s.b n (end_b_boxed s))
    by false false false false false e f g m n = absurd (h (parted_from s t e (none_inside s t f g) (none_inside t s m n)))

pub marks_need_boxes_that_meet : MarksNeedBoxesThatMeet
marks_need_boxes_that_meet = record {
  early = λ s t radius h. unparted_meet s t (λ e. h ((mark_unless_parted.early s t radius).1 e));
  late = λ s t h. unparted_meet s t (λ e. h ((mark_unless_parted.late s t).1 e));
}
