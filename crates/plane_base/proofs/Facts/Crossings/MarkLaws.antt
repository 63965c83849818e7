-- Whoever finds a pair, its marks are the same; they are real, stay in boxes, and are there unless the pair is parted.
--
-- Above, cite the laws `marks_agree`, `marks_are_real` and `marks_stay_in_boxes`; `either`, `early_by` and `late_by` prove a claim of
-- marks by cases, and so do the cases of `MarkCases`.
use Rattle.std.proofs.Common.{◌≡◌, ◌≢◌, ℕ, Bool, true, false, cond, List, [], ◌∷◌, ◌++◌, ◌⊎◌, inl, inr, ℤ, ◌≤ℤ◌, arith, refl, sym, ◌∙◌}
use Rattle.std.specs.Prelude.{Option, Some, None}
use Rattle.std.specs.declared.cmp.Ordering.{Ordering}
use Rattle.std.specs.declared.cmp.Ordering.TheVariants.{Less, Equal, Greater}
use Rattle.std.specs.Ordering.{is_gt, ordering_reverse}
use Rattle.std.specs.Int.{int_min, int_max}
use Rattle.std.proofs.lemmas.Int.{ints, clamps}
use Rattle.std.proofs.lemmas.Bool.{cond_both, false≢true}
use Rattle.plane_base.specs.Plane.{Point, Edge, edge_order}
use Rattle.plane_base.specs.Segments.{ends_inside, cross_properly, on_one_line}
use Rattle.plane_base.specs.Crossing.{Meeting, pure, crossed, crossing, rounded, rounded_along, least_of, overlaid, at_end, touching, cross_meeting, late_meeting, Marks, exchanged, laid_by}
use Rattle.plane_base.specs.CrossingLaws.{InBox, InBoxOfBoth, InOwnBoxes, InBoxesOfBoth, AreReal, MarksAgree, MarksAreReal, MarksStayInBoxes}
use Rattle.plane_base.proofs.Facts.Points.Orders.{edge_total, edge_equal}
use Rattle.plane_base.proofs.Facts.Crossings.Tests.{inside_apart}
use Rattle.plane_base.proofs.Facts.Crossings.Place.{crossing_boxed, crossing_boxed_other, nearest_boxed, along_boxed, end_a_boxed, end_b_boxed, inside_boxed, min_first, min_second, max_first, max_second}
use Rattle.plane_base.proofs.Facts.Crossings.Marks.{all_none, all_one, all_unless_end, inside_all, touching_lays, proper_swapped, no_shared_end, crossed_by}

-- ---- either order

-- what is laid on a pair by its meetings, the lesser as the target
abbrev pub marks_from : (Edge → Edge → Meeting) → Edge → Edge → Marks
marks_from f s t = cond (is_gt (edge_order s t)) (exchanged (laid_by t s (f t s))) (laid_by s t (f s t))

pub either : (f : Edge → Edge → Meeting) (P : Marks → Type 0) (s t : Edge) → P (exchanged (laid_by t s (f t s))) → P (laid_by s t (f s t)) → P (marks_from f s t)
either f P s t h k = cond_both (is_gt (edge_order s t)) _ _ P (λ e. h) (λ e. k)

agree : (f : Edge → Edge → Meeting) (s t : Edge) → s ≢ t → marks_from f t s ≡ exchanged (marks_from f s t)
agree f s t differ = by (edge_order s t) (edge_order t s) refl (edge_total.antisymm t s)
  where
    by : (o r : Ordering) → edge_order s t ≡ o → r ≡ ordering_reverse o → cond (is_gt r) (exchanged (laid_by s t (f s t))) (laid_by t s (f t s)) ≡ exchanged (cond (is_gt o) (exchanged (laid_by t s (f t s))) (laid_by s t (f s t)))
    by Less r e h = rw h refl
    by Equal r e h = absurd (differ (edge_equal s t e))
    by Greater r e h = rw h refl

pub marks_agree : MarksAgree
marks_agree = record { early = λ s t radius h. agree (λ s t. cross_meeting s t radius) s t h; late = λ s t h. agree late_meeting s t h }

-- ---- meetings by cases

pub early_by : (P : Meeting → Type 0) (s t : Edge) (radius : ℕ) → (cross_properly s t ≡ true → P (crossed s t radius)) → (cross_properly s t ≡ false → P (touching s t)) → P (cross_meeting s t radius)
early_by P s t radius h k = cond_both (cross_properly s t) (crossed s t radius) (touching s t) P h k

pub late_by : (P : Meeting → Type 0) (s t : Edge) → (cross_properly s t ≡ true → P (pure (rounded (crossing s t)))) → (cross_properly s t ≡ false → P (touching s t)) → P (late_meeting s t)
late_by P s t h k = cond_both (cross_properly s t) (pure (rounded (crossing s t))) (touching s t) P h k

-- ---- no mark at an own end

real_swapped : (s t : Edge) (m : Marks) → AreReal t s m → AreReal s t (exchanged m)
real_swapped s t m h = record { first = h.second; second = h.first }

abbrev IsNoEnd : Edge → Point → Type 0
IsNoEnd s p = (p ≢ s.a) × (p ≢ s.b)

real_touching : (s t : Edge) → AreReal s t (laid_by s t (touching s t))
real_touching s t =
    let h = touching_lays (IsNoEnd s) (IsNoEnd t) s t (inside_all (IsNoEnd s) s t (λ p e. inside_apart p s e)) (inside_all (IsNoEnd t) t s (λ p e. inside_apart p t e)) in
    record { first = h.0; second = h.1 }

real_pure : (s t : Edge) (p : Point) → AreReal s t (laid_by s t (pure p))
real_pure s t p = record { first = all_unless_end (IsNoEnd s) s p (λ h. h); second = all_unless_end (IsNoEnd t) t p (λ h. h) }

real_crossed : (s t : Edge) (radius : ℕ) → cross_properly s t ≡ true → AreReal s t (laid_by s t (crossed s t radius))
real_crossed s t radius e =
    crossed_by (λ m. AreReal s t (laid_by s t m)) s t radius (real_pure s t _) (real_pure s t _)
    (λ p h. record { first = all_none (IsNoEnd s); second = all_one (IsNoEnd t) p ((λ f. no_shared_end s t e p h (inl f)), (λ f. no_shared_end s t e p h (inr f))) })
    (λ p h. record { first = all_one (IsNoEnd s) p ((λ f. no_shared_end s t e p (inl f) h), (λ f. no_shared_end s t e p (inr f) h)); second = all_none (IsNoEnd t) })

real_early : (s t : Edge) (radius : ℕ) → AreReal s t (laid_by s t (cross_meeting s t radius))
real_early s t radius = early_by (λ m. AreReal s t (laid_by s t m)) s t radius (real_crossed s t radius) (λ e. real_touching s t)

real_late : (s t : Edge) → AreReal s t (laid_by s t (late_meeting s t))
real_late s t = late_by (λ m. AreReal s t (laid_by s t m)) s t (λ e. real_pure s t _) (λ e. real_touching s t)

pub marks_are_real : MarksAreReal
marks_are_real = record {
  early = λ s t radius. either (λ s t. cross_meeting s t radius) (AreReal s t) s t (real_swapped s t _ (real_early t s radius)) (real_early s t radius);
  late = λ s t. either late_meeting (AreReal s t) s t (real_swapped s t _ (real_late t s)) (real_late s t);
}

-- ---- boxes

own_swapped : (s t : Edge) (m : Marks) → InOwnBoxes t s m → InOwnBoxes s t (exchanged m)
own_swapped s t m h = record { first = h.second; second = h.first }

own_touching : (s t : Edge) → InOwnBoxes s t (laid_by s t (touching s t))
own_touching s t =
    let h = touching_lays (λ p. InBox p s) (λ p. InBox p t) s t (inside_all (λ p. InBox p s) s t (λ p e. inside_boxed p s e)) (inside_all (λ p. InBox p t) t s (λ p e. inside_boxed p t e)) in
    record { first = h.0; second = h.1 }

own_pure : (s t : Edge) (p : Point) → InBox p s → InBox p t → InOwnBoxes s t (laid_by s t (pure p))
own_pure s t p h k = record { first = all_unless_end (λ p. InBox p s) s p (λ e. h); second = all_unless_end (λ p. InBox p t) t p (λ e. k) }

rounded_own : (s t : Edge) → cross_properly s t ≡ true → InBox (rounded (crossing s t)) s × InBox (rounded (crossing s t)) t
rounded_own s t e = (nearest_boxed (crossing s t) s (crossing_boxed s t e), nearest_boxed (crossing s t) t (crossing_boxed_other s t e (proper_swapped s t e)))

along_own : (s t : Edge) → cross_properly s t ≡ true → InBox (rounded_along s (crossing s t)) s × InBox (rounded_along s (crossing s t)) t
along_own s t e =
    let own = crossing_boxed s t e in
    (along_boxed s s _ _ own.some own, along_boxed s t _ _ own.some (crossing_boxed_other s t e (proper_swapped s t e)))

own_late : (s t : Edge) → InOwnBoxes s t (laid_by s t (late_meeting s t))
own_late s t = late_by (λ m. InOwnBoxes s t (laid_by s t m)) s t (λ e. own_pure s t _ (rounded_own s t e).0 (rounded_own s t e).1) (λ e. own_touching s t)

-- the box of both holds that of each
low_left : (a b c d x : ℤ) → int_min a b ≤ℤ x → int_min (int_min a b) (int_min c d) ≤ℤ x
low_left a b c d x h = chain _ _ _ (min_first (int_min a b) (int_min c d)) h
  where
    chain : (x y z : ℤ) → x ≤ℤ y → y ≤ℤ z → x ≤ℤ z
    chain x y z l m = omega (arith, ints)

low_right : (a b c d x : ℤ) → int_min c d ≤ℤ x → int_min (int_min a b) (int_min c d) ≤ℤ x
low_right a b c d x h = chain _ _ _ (min_second (int_min a b) (int_min c d)) h
  where
    chain : (x y z : ℤ) → x ≤ℤ y → y ≤ℤ z → x ≤ℤ z
    chain x y z l m = omega (arith, ints)

high_left : (a b c d x : ℤ) → x ≤ℤ int_max a b → x ≤ℤ int_max (int_max a b) (int_max c d)
high_left a b c d x h = chain _ _ _ h (max_first (int_max a b) (int_max c d))
  where
    chain : (x y z : ℤ) → x ≤ℤ y → y ≤ℤ z → x ≤ℤ z
    chain x y z l m = omega (arith, ints)

high_right : (a b c d x : ℤ) → x ≤ℤ int_max c d → x ≤ℤ int_max (int_max a b) (int_max c d)
high_right a b c d x h = chain _ _ _ h (max_second (int_max a b) (int_max c d))
  where
    chain : (x y z : ℤ) → x ≤ℤ y → y ≤ℤ z → x ≤ℤ z
    chain x y z l m = omega (arith, ints)

of_first : (s t : Edge) (p : Point) → InBox p s → InBoxOfBoth p s t
of_first s t p h = record {
  left = low_left s.a.x s.b.x t.a.x t.b.x p.x h.left;
  right = high_left s.a.x s.b.x t.a.x t.b.x p.x h.right;
  bottom = low_left s.a.y s.b.y t.a.y t.b.y p.y h.bottom;
  top = high_left s.a.y s.b.y t.a.y t.b.y p.y h.top;
}

of_second : (s t : Edge) (p : Point) → InBox p t → InBoxOfBoth p s t
of_second s t p h = record {
  left = low_right s.a.x s.b.x t.a.x t.b.x p.x h.left;
  right = high_right s.a.x s.b.x t.a.x t.b.x p.x h.right;
  bottom = low_right s.a.y s.b.y t.a.y t.b.y p.y h.bottom;
  top = high_right s.a.y s.b.y t.a.y t.b.y p.y h.top;
}

both_swapped : (s t : Edge) (p : Point) → InBoxOfBoth p t s → InBoxOfBoth p s t
both_swapped s t p h = record {
  left = low (int_min s.a.x s.b.x) (int_min t.a.x t.b.x) p.x h.left;
  right = high (int_max s.a.x s.b.x) (int_max t.a.x t.b.x) p.x h.right;
  bottom = low (int_min s.a.y s.b.y) (int_min t.a.y t.b.y) p.y h.bottom;
  top = high (int_max s.a.y s.b.y) (int_max t.a.y t.b.y) p.y h.top;
}
  where
    low : (m n x : ℤ) → int_min n m ≤ℤ x → int_min m n ≤ℤ x
    low m n x h = omega (arith, ints, clamps)

    high : (m n x : ℤ) → x ≤ℤ int_max n m → x ≤ℤ int_max m n
    high m n x h = omega (arith, ints, clamps)

-- in the box of both wherever in its own
both_of_own : (s t : Edge) (m : Marks) → InOwnBoxes s t m → InBoxesOfBoth s t m
both_of_own s t m h = record { first = λ k d l. of_first s t _ (h.first k d l); second = λ k d l. of_second s t _ (h.second k d l) }

swapped_boxes : (s t : Edge) (m : Marks) → InBoxesOfBoth t s m → InBoxesOfBoth s t (exchanged m)
swapped_boxes s t m h = record { first = λ k d l. both_swapped s t _ (h.second k d l); second = λ k d l. both_swapped s t _ (h.first k d l) }

end_in : (s : Edge) (p : Point) → (p ≡ s.a) ⊎ (p ≡ s.b) → InBox p s
end_in s p (inl e) = rw e (end_a_boxed s)
end_in s p (inr e) = rw e (end_b_boxed s)

both_crossed : (s t : Edge) (radius : ℕ) → cross_properly s t ≡ true → InBoxesOfBoth s t (laid_by s t (crossed s t radius))
both_crossed s t radius e =
    crossed_by (λ m. InBoxesOfBoth s t (laid_by s t m)) s t radius
    (both_of_own s t _ (own_pure s t _ (rounded_own s t e).0 (rounded_own s t e).1))
    (both_of_own s t _ (own_pure s t _ (along_own s t e).0 (along_own s t e).1))
    (λ p h. record { first = all_none (λ p. InBoxOfBoth p s t); second = all_one (λ p. InBoxOfBoth p s t) p (of_first s t p (end_in s p h)) })
    (λ p h. record { first = all_one (λ p. InBoxOfBoth p s t) p (of_second s t p (end_in t p h)); second = all_none (λ p. InBoxOfBoth p s t) })

both_early : (s t : Edge) (radius : ℕ) → InBoxesOfBoth s t (laid_by s t (cross_meeting s t radius))
both_early s t radius = early_by (λ m. InBoxesOfBoth s t (laid_by s t m)) s t radius (both_crossed s t radius) (λ e. both_of_own s t _ (own_touching s t))

not_swapped : (s t : Edge) → cross_properly s t ≡ false → cross_properly t s ≡ false
not_swapped s t e = by (cross_properly t s) refl
  where
    by : (b : Bool) → cross_properly t s ≡ b → b ≡ false
    by true f = absurd (false≢true (sym e ∙ proper_swapped t s f))
    by false f = refl

own_early : (s t : Edge) (radius : ℕ) → cross_properly s t ≡ false → InOwnBoxes s t (laid_by s t (cross_meeting s t radius))
own_early s t radius e = early_by (λ m. InOwnBoxes s t (laid_by s t m)) s t radius (λ f. absurd (false≢true (sym e ∙ f))) (λ f. own_touching s t)

-- what no proper crossing gives is no pure meeting
touching_not_pure : (s t : Edge) (p : Point) → touching s t ≢ pure p
touching_not_pure s t p = by (on_one_line s t) (least_of (ends_inside s t ++ ends_inside t s)) (ends_inside s t) (ends_inside t s)
  where
    by : (b : Bool) (o : Option Point) (xs ys : List Point) → cond b (overlaid o) (at_end xs ys) ≢ pure p
    by true None xs ys e = absurd (cc)
    by true (Some q) xs ys e = absurd (cc)
    by false o [] [] e = absurd (cc)
    by false o [] (y ∷ ys) e = absurd (cc)
    by false o (x ∷ xs) ys e = absurd (cc)

boxed_along : (s t : Edge) (p q : Point) → InBox q s × InBox q t → pure q ≡ pure p → InBox p s × InBox p t
boxed_along s t p q h e = let f : q ≡ p = cc in rw (← f) h

own_crossing : (s t : Edge) (radius : ℕ) (p : Point) → cross_meeting s t radius ≡ pure p → InBox p s × InBox p t
own_crossing s t radius p =
    early_by (λ m. m ≡ pure p → InBox p s × InBox p t) s t radius
    (λ e. crossed_by (λ m. m ≡ pure p → InBox p s × InBox p t) s t radius (boxed_along s t p _ (rounded_own s t e)) (boxed_along s t p _ (along_own s t e)) (λ q h f. absurd (cc)) (λ q h f. absurd (cc)))
    (λ e f. absurd (touching_not_pure s t p f))

pub marks_stay_in_boxes : MarksStayInBoxes
marks_stay_in_boxes = record {
  early = λ s t radius. either (λ s t. cross_meeting s t radius) (InBoxesOfBoth s t) s t (swapped_boxes s t _ (both_early t s radius)) (both_early s t radius);
  touching = λ s t radius e. either (λ s t. cross_meeting s t radius) (InOwnBoxes s t) s t (own_swapped s t _ (own_early t s radius (not_swapped s t e))) (own_early s t radius e);
  crossing = own_crossing;
  late = λ s t. either late_meeting (InOwnBoxes s t) s t (own_swapped s t _ (own_late t s)) (own_late s t);
}
