-- A convex contour, turned counterclockwise, winds once round every point where the even-odd rule holds of it, and
-- zero times round every other: it is the even-odd answer for itself.
use Rattle.std.proofs.Common.{◌≡◌, ℕ, true, false, List, [], ◌∷◌, ◌++◌, ◌-◌, length, get_or, All, ℤ, pos, negsuc, neg_ℤ, ◌<ℤ◌, refl, sym, ap, ◌∙◌, subst, ◌⊎◌, inl, inr, arith}
use Rattle.std.specs.Prelude.{reverse}
use Rattle.std.proofs.lemmas.Int.{ints}
use Rattle.std.proofs.lemmas.List.{reverse-append, reverse-reverse, length-reverse, get_or-reverse}
use Rattle.std.proofs.lemmas.List.Elements.{All-weaker}
use mathlib.Core.List.{reverse_aux-eq}
use Rattle.plane_base.specs.Plane.{Point, turn, RationalPoint, IsRational}
use Rattle.plane_base.specs.Cycles.{SameCycle}
use Rattle.plane_base.specs.Given.{given}
use Rattle.plane_base.specs.Windings.{cycle_winding}
use Rattle.plane_base.specs.Regions.{is_odd, EvenOdd, Subject}
use Rattle.plane_base.specs.Thinning.{IsThinned}
use Rattle.plane_base.specs.Convexity.{IsLeftConvex, IsRightConvex}
use Rattle.plane_base.specs.RegionAnswers.{WindsOnce}
use Rattle.plane_base.proofs.Facts.Lists.Cycles.{cycle_sym, cycle_trans, cycle_rotated, cycle_same}
use Rattle.plane_base.proofs.Facts.Points.Turns.{turn_swap}
use Rattle.plane_base.proofs.Facts.Windings.Paths.{cycle_winding_same, cycle_winding-reverse}
use Rattle.plane_base.proofs.Facts.Windings.Sums.{contour_winding_one}
use Rattle.plane_base.proofs.Facts.Thinning.Laws.{thinned_winding}
use Rattle.plane_base.proofs.Facts.Windings.Convex.{left_convex_same, left_convex_winding}

-- ---- cycles turned round

pub cycle_reverse : {A : Type 0} {c d : List A} → SameCycle c d → SameCycle (reverse c) (reverse d)
cycle_reverse s = record {
  front = reverse s.back;
  back = reverse s.front;
  first = ap reverse s.first ∙ reverse-append s.front s.back;
  second = ap reverse s.second ∙ reverse-append s.back s.front;
}

pub right_convex_same : {c d : List Point} → SameCycle c d → IsRightConvex c → IsRightConvex d
right_convex_same same convex a b others turned = convex a b others (cycle_trans same turned)

-- the step from a to b taken back
step_back : {A : Type 0} (c : List A) (a b : A) (others : List A) → SameCycle (reverse c) (a ∷ b ∷ others) → SameCycle c (b ∷ a ∷ reverse others)
step_back c a b others same =
    cycle_trans (cycle_same (sym (reverse-reverse c))) (cycle_trans (cycle_reverse same) (cycle_trans (cycle_same last_two) (cycle_rotated (reverse others) (b ∷ a ∷ []))))
  where
    last_two : reverse (a ∷ b ∷ others) ≡ reverse others ++ b ∷ a ∷ []
    last_two = reverse_aux-eq others (b ∷ a ∷ [])

pub All-reverse : {A : Type 0} (P : A → Type 0) (xs : List A) → All P (reverse xs) → All P xs
All-reverse P xs h k d inside =
    subst P (get_or-reverse xs back d (omega arith) ∙ ap (λ n. get_or xs n d) twice) (h back d (omega (arith, length-reverse xs)))
  where
    back : ℕ
    back = length xs - 1 - k

    twice : length xs - 1 - back ≡ k
    twice = omega arith

pub left_convex-reverse : (c : List Point) → IsRightConvex c → IsLeftConvex (reverse c)
left_convex-reverse c convex a b others same =
    All-weaker (λ p. turn b a p <ℤ pos 0) (λ p. pos 0 <ℤ turn a b p) (λ p. negated (turn a b p) (turn b a p) (turn_swap a b p)) others
    (All-reverse (λ p. turn b a p <ℤ pos 0) others (convex b a (reverse others) (step_back c a b others same)))
  where
    negated : (x y : ℤ) → x ≡ neg_ℤ y → y <ℤ pos 0 → pos 0 <ℤ x
    negated x y e h = omega (arith, ints)

pub right_convex-reverse : (c : List Point) → IsLeftConvex c → IsRightConvex (reverse c)
right_convex-reverse c convex a b others same =
    All-weaker (λ p. pos 0 <ℤ turn b a p) (λ p. turn a b p <ℤ pos 0) (λ p. negated (turn a b p) (turn b a p) (turn_swap a b p)) others
    (All-reverse (λ p. pos 0 <ℤ turn b a p) others (convex b a (reverse others) (step_back c a b others same)))
  where
    negated : (x y : ℤ) → x ≡ neg_ℤ y → pos 0 <ℤ y → x <ℤ pos 0
    negated x y e h = omega (arith, ints)

pub right_convex_winding : (c : List Point) → IsRightConvex c → (p : RationalPoint) → IsRational p → (cycle_winding c p ≡ pos 0) ⊎ (cycle_winding c p ≡ negsuc 0)
right_convex_winding c convex p q = by (left_convex_winding (reverse c) (left_convex-reverse c convex) p q)
  where
    none : (x y : ℤ) → x ≡ neg_ℤ y → x ≡ pos 0 → y ≡ pos 0
    none x y e f = omega (arith, ints)

    once : (x y : ℤ) → x ≡ neg_ℤ y → x ≡ pos 1 → y ≡ negsuc 0
    once x y e f = omega (arith, ints)

    by : (cycle_winding (reverse c) p ≡ pos 0) ⊎ (cycle_winding (reverse c) p ≡ pos 1) → (cycle_winding c p ≡ pos 0) ⊎ (cycle_winding c p ≡ negsuc 0)
    by (inl e) = inl (none (cycle_winding (reverse c) p) (cycle_winding c p) (cycle_winding-reverse c p) e)
    by (inr e) = inr (once (cycle_winding (reverse c) p) (cycle_winding c p) (cycle_winding-reverse c p) e)

-- ---- answers

-- an answer of one contour that winds once where the given one has an odd winding, zero times elsewhere
winds_once_by : (contour d : List Point) → ((p : RationalPoint) → IsRational p → (is_odd (cycle_winding contour p) ≡ false) × (cycle_winding d p ≡ pos 0) ⊎ (is_odd (cycle_winding contour p) ≡ true) × (cycle_winding d p ≡ pos 1)) → WindsOnce EvenOdd Subject (given (contour ∷ []) []) (d ∷ [])
winds_once_by contour d h = record {
  inside = λ p q off e. contour_winding_one d p ∙ once (cycle_winding contour p) (cycle_winding d p) (h p q) (ap is_odd (sym (contour_winding_one contour p)) ∙ e);
  outside = λ p q off e. contour_winding_one d p ∙ none (cycle_winding contour p) (cycle_winding d p) (h p q) (ap is_odd (sym (contour_winding_one contour p)) ∙ e);
}
  where
    once : (w v : ℤ) → (is_odd w ≡ false) × (v ≡ pos 0) ⊎ (is_odd w ≡ true) × (v ≡ pos 1) → is_odd w ≡ true → v ≡ pos 1
    once w v (inl z) e = absurd (cc z.0)
    once w v (inr o) e = o.1

    none : (w v : ℤ) → (is_odd w ≡ false) × (v ≡ pos 0) ⊎ (is_odd w ≡ true) × (v ≡ pos 1) → is_odd w ≡ false → v ≡ pos 0
    none w v (inl z) e = z.1
    none w v (inr o) e = absurd (cc o.0)

-- The given contour may have other points than the convex one, as long as it has the same windings.
pub left_convex_winds_once : (contour c d : List Point) → ((p : RationalPoint) → IsRational p → cycle_winding contour p ≡ cycle_winding c p) → IsLeftConvex c → SameCycle c d → WindsOnce EvenOdd Subject (given (contour ∷ []) []) (d ∷ [])
left_convex_winds_once contour c d even convex same =
    winds_once_by contour d (λ p q. by (cycle_winding contour p) (cycle_winding c p) (cycle_winding d p) (even p q) (cycle_winding_same same p) (left_convex_winding c convex p q))
  where
    by : (w c d : ℤ) → w ≡ c → c ≡ d → (c ≡ pos 0) ⊎ (c ≡ pos 1) → (is_odd w ≡ false) × (d ≡ pos 0) ⊎ (is_odd w ≡ true) × (d ≡ pos 1)
    by w c d e f (inl z) = inl (ap is_odd (e ∙ z), sym f ∙ z)
    by w c d e f (inr o) = inr (ap is_odd (e ∙ o), sym f ∙ o)

-- Clockwise, the answer is the contour taken back.
pub right_convex_winds_once : (contour c d : List Point) → ((p : RationalPoint) → IsRational p → cycle_winding contour p ≡ cycle_winding c p) → IsRightConvex c → SameCycle (reverse c) d → WindsOnce EvenOdd Subject (given (contour ∷ []) []) (d ∷ [])
right_convex_winds_once contour c d even convex same =
    winds_once_by contour d (λ p q. by (cycle_winding contour p) (cycle_winding c p) (cycle_winding d p) (even p q) (sym (cycle_winding_same same p) ∙ cycle_winding-reverse c p) (right_convex_winding c convex p q))
  where
    by : (w c d : ℤ) → w ≡ c → d ≡ neg_ℤ c → (c ≡ pos 0) ⊎ (c ≡ negsuc 0) → (is_odd w ≡ false) × (d ≡ pos 0) ⊎ (is_odd w ≡ true) × (d ≡ pos 1)
    by w c d e f (inl z) = inl (ap is_odd (e ∙ z), f ∙ ap neg_ℤ z)
    by w c d e f (inr o) = inr (ap is_odd (e ∙ o), f ∙ ap neg_ℤ o)

-- whichever way the contour goes, the one that goes counterclockwise
pub convex_winds_once : (contour c d : List Point) → ((p : RationalPoint) → IsRational p → cycle_winding contour p ≡ cycle_winding c p) → IsLeftConvex d → SameCycle c d ⊎ SameCycle (reverse c) d → WindsOnce EvenOdd Subject (given (contour ∷ []) []) (d ∷ [])
convex_winds_once contour c d even convex (inl same) =
    left_convex_winds_once contour c d even (left_convex_same (cycle_sym same) convex) same
convex_winds_once contour c d even convex (inr same) =
    right_convex_winds_once contour c d even (right_convex_same turned_back (right_convex-reverse d convex)) same
  where
    turned_back : SameCycle (reverse d) c
    turned_back = cycle_sym (cycle_trans (cycle_same (sym (reverse-reverse c))) (cycle_reverse same))

-- a thinned contour, whichever way it goes
pub thinned_convex_winds_once : {contour c d : List Point} → IsThinned contour c → IsLeftConvex d → SameCycle c d ⊎ SameCycle (reverse c) d → WindsOnce EvenOdd Subject (given (contour ∷ []) []) (d ∷ [])
thinned_convex_winds_once {contour = contour} {c = c} {d = d} thinned convex same =
    convex_winds_once contour c d (λ p q. thinned_winding thinned p) convex same

-- No contour is the answer where the given one winds round nothing.
pub nothing_winds_once : (contour : List Point) → ((p : RationalPoint) → IsRational p → cycle_winding contour p ≡ pos 0) → WindsOnce EvenOdd Subject (given (contour ∷ []) []) []
nothing_winds_once contour none = record {
  inside = λ p q off e. absurd (cc (ap is_odd (none p q), ap is_odd (sym (contour_winding_one contour p)) ∙ e));
  outside = λ p q off e. refl;
}

pub thinned_away_winds_once : {contour : List Point} → IsThinned contour [] → WindsOnce EvenOdd Subject (given (contour ∷ []) []) []
thinned_away_winds_once {contour = contour} thinned = nothing_winds_once contour (λ p q. thinned_winding thinned p)
