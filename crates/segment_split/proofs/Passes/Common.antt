-- What two edges have in common inside one of them is marked there: an end of the other, and a crossing at a whole point.
use Rattle.std.proofs.Common.{◌≡◌, ◌<◌, Bool, true, false, cond, List, [], ◌∷◌, ◌++◌, All, Contains, ◌⊎◌, inl, inr, ⊎_elim, subst, ℤ, pos, ◌*ℤ◌, ◌-ℤ◌, int_eq, refl, sym, ap, ◌∙◌, arith}
use Rattle.std.specs.Prelude.{unsigned_abs}
use Rattle.std.proofs.lemmas.Int.{ints}
use Rattle.std.proofs.lemmas.Bool.{false≢true}
use Rattle.std.proofs.lemmas.Bool.Decides.{Decides-int_eq}
use Rattle.std.proofs.lemmas.List.Elements.{All-nil, All-cons, All-head, All-contains, All-filter, filter_passes}
use Rattle.plane_base.specs.Plane.{Point, Edge, scaled, turn, is_before, point_order}
use Rattle.plane_base.specs.Segments.{strictly_inside, ends_inside, cross_properly, on_one_line}
use Rattle.plane_base.specs.Crossing.{rounded, crossing, least_of, overlaid, at_end, touching, pure, late_meeting, laid_by, late_marks}
use Rattle.plane_base.specs.WholeLaws.{MeetsWhole}
use Rattle.plane_base.proofs.Facts.Points.Turns.{whole, side_of_whole, turn_there_and_back, turn_end_twice}
use Rattle.plane_base.proofs.Facts.Crossings.Tests.{AreOpposite}
use Rattle.plane_base.proofs.Facts.Crossings.Place.{crossing_is_common, other_apart, turns_differ}
use Rattle.plane_base.proofs.Facts.Crossings.Marks.{touching_lays}
use Rattle.plane_base.proofs.Facts.Crossings.MarkLaws.{either}
use Rattle.plane_base.proofs.Facts.Crossings.Parted.{not_swapped}
use Rattle.plane_base.proofs.Facts.Columns.Parted.{IsBetween, Balanced, on_both, on_none, between_balanced, opposite_is}
use Rattle.plane_base.proofs.Facts.Crossings.Whole.{whole_only, whole_in_both, whole_marks_stay}
use Rattle.plane_base.proofs.Facts.Crossings.Pieces.{three_on_line, one_meeting, same_rounded}
use Rattle.segment_split.proofs.Passes.Steps.{inside_is, contains_head, contains_tail}

-- ---- on one line

abbrev pub AreCollinear : Edge → Edge → Type 0
AreCollinear s r = (turn s.a s.b r.a ≡ pos 0) × (turn s.a s.b r.b ≡ pos 0)

abbrev pub IsOneEnd : Edge → Point → Type 0
IsOneEnd s p = (p ≡ s.a) ⊎ (p ≡ s.b)

-- the ends of s lie on the line of r too
pub collinear_swapped : (s r : Edge) → is_before s.a s.b ≡ true → AreCollinear s r → AreCollinear r s
collinear_swapped s r forward h = (
  three_on_line s.a s.b r.a r.b s.a forward h.0 h.1 (turn_there_and_back s.a s.b),
  three_on_line s.a s.b r.a r.b s.b forward h.0 h.1 (turn_end_twice s.a s.b),
)

pub one_line_from : (s r : Edge) → AreCollinear s r → AreCollinear r s → on_one_line s r ≡ true
one_line_from s r h k =
    let flat : (x : ℤ) → x ≡ pos 0 → int_eq x (pos 0) ≡ true = λ x e. (Decides-int_eq x (pos 0)).1 e in
    rw (flat _ h.0, flat _ h.1, flat _ k.0, flat _ k.1) refl

own_end_flat : (s : Edge) (p : Point) → IsOneEnd s p → turn s.a s.b p ≡ pos 0
own_end_flat s p h = ⊎_elim (λ e. ap (turn s.a s.b) e ∙ turn_there_and_back s.a s.b) (λ e. ap (turn s.a s.b) e ∙ turn_end_twice s.a s.b) h

-- a line that an end of r lies on doesn't part its ends
not_opposite : (s r : Edge) (p : Point) → turn s.a s.b p ≡ pos 0 → IsOneEnd r p → AreOpposite (turn s.a s.b r.a) (turn s.a s.b r.b) → ⊥
not_opposite s r p flat end h = ⊎_elim (λ e. first _ _ (ap (turn s.a s.b) (sym e) ∙ flat) h) (λ e. second _ _ (ap (turn s.a s.b) (sym e) ∙ flat) h) end
  where
    first : (m n : ℤ) → m ≡ pos 0 → AreOpposite m n → ⊥
    first m n e h = ⊎_elim (λ k. absurd (omega (arith, ints, k.0))) (λ k. absurd (omega (arith, ints, k.0))) h

    second : (m n : ℤ) → n ≡ pos 0 → AreOpposite m n → ⊥
    second m n e h = ⊎_elim (λ k. absurd (omega (arith, ints, k.1))) (λ k. absurd (omega (arith, ints, k.1))) h

-- ---- a whole point inside an edge, as a rational one

once : (a : Point) → scaled 1 a ≡ a
once a = λ i. record { x = unit a.x i; y = unit a.y i }
  where
    unit : (x : ℤ) → pos 1 *ℤ x ≡ x
    unit x = omega (arith, ints)

whole_between : (p : Point) (s : Edge) → strictly_inside p s ≡ true → IsBetween (whole p) s
whole_between p s e =
    let h = inside_is p s e in
    record {
      flat = side_of_whole s.a s.b p ∙ h.0;
      after = ap (λ z. point_order z p) (once s.a) ∙ h.1;
      before = ap (point_order p) (once s.b) ∙ h.2;
    }

-- ---- ends inside

ends_listed : (s r : Edge) → All (λ p. IsOneEnd r p × (strictly_inside p s ≡ true)) (ends_inside s r)
ends_listed s r k d h = (
  All-filter (λ p. strictly_inside p s) (IsOneEnd r) (r.a ∷ r.b ∷ []) (All-cons (IsOneEnd r) r.a (r.b ∷ []) (inl refl) (All-cons (IsOneEnd r) r.b [] (inr refl) (All-nil (IsOneEnd r)))) k d h,
  filter_passes (λ p. strictly_inside p s) (r.a ∷ r.b ∷ []) k d h,
)

end_listed : (s r : Edge) (p : Point) → strictly_inside p s ≡ true → IsOneEnd r p → Contains (ends_inside s r) p
end_listed s r p e end = ⊎_elim first second end
  where
    first : p ≡ r.a → Contains (ends_inside s r) p
    first f = subst (Contains (ends_inside s r)) (sym f) (by (strictly_inside r.a s) (ap (λ z. strictly_inside z s) (sym f) ∙ e))
      where
        by : (b : Bool) → b ≡ true → Contains (cond b (r.a ∷ cond (strictly_inside r.b s) (r.b ∷ []) []) (cond (strictly_inside r.b s) (r.b ∷ []) [])) r.a
        by true g = contains_head r.a _
        by false g = absurd (false≢true g)

    second : p ≡ r.b → Contains (ends_inside s r) p
    second f = subst (Contains (ends_inside s r)) (sym f) (by (strictly_inside r.a s) (strictly_inside r.b s) (ap (λ z. strictly_inside z s) (sym f) ∙ e))
      where
        by : (b c : Bool) → c ≡ true → Contains (cond b (r.a ∷ cond c (r.b ∷ []) []) (cond c (r.b ∷ []) [])) r.b
        by true true g = contains_tail r.a (r.b ∷ []) r.b (contains_head r.b [])
        by false true g = contains_head r.b []
        by b false g = absurd (false≢true g)

-- only one end lies inside where the two aren't on one line
one_listed : (s r : Edge) (p : Point) → strictly_inside p s ≡ true → IsOneEnd r p → (AreCollinear s r → ⊥) → (x : Point) (xs : List Point) → ends_inside s r ≡ x ∷ xs → x ≡ p
one_listed s r p e end apart x xs f = by (strictly_inside r.a s) (strictly_inside r.b s) refl refl f
  where
    head : (y : Point) (ys : List Point) → y ∷ ys ≡ x ∷ xs → x ≡ y
    head y ys g = cc

    clash : (z : Point) → p ≡ z → strictly_inside z s ≡ false → ⊥
    clash z g h = false≢true (sym h ∙ ap (λ q. strictly_inside q s) (sym g) ∙ e)

    by : (b c : Bool) → strictly_inside r.a s ≡ b → strictly_inside r.b s ≡ c → cond b (r.a ∷ cond c (r.b ∷ []) []) (cond c (r.b ∷ []) []) ≡ x ∷ xs → x ≡ p
    by true true g h k = absurd (apart ((inside_is r.a s g).0, (inside_is r.b s h).0))
    by true false g h k = ⊎_elim (λ l. head r.a [] k ∙ sym l) (λ l. absurd (clash r.b l h)) end
    by false true g h k = ⊎_elim (λ l. absurd (clash r.a l g)) (λ l. head r.b [] k ∙ sym l) end
    by false false g h k = absurd (cc)

-- ---- an end of r inside s is marked on s

module _ (s r : Edge) (p : Point) (forward : is_before s.a s.b ≡ true) (e : strictly_inside p s ≡ true) (end : IsOneEnd r p) where
  flat_there : turn s.a s.b p ≡ pos 0
  flat_there = (inside_is p s e).0

  not_crossed : cross_properly s r ≡ false
  not_crossed = by (cross_properly s r) refl
    where
      none : (x : ℤ) → 0 < unsigned_abs x → x ≡ pos 0 → ⊥
      none x h e = let g : 0 < unsigned_abs (pos 0) = rw e at h in omega arith

      by : (b : Bool) → cross_properly s r ≡ b → b ≡ false
      by true f = absurd (⊎_elim (λ g. none (turn s.a s.b r.a) (other_apart s r f).0 (ap (turn s.a s.b) (sym g) ∙ flat_there)) (λ g. none (turn s.a s.b r.b) (other_apart s r f).1 (ap (turn s.a s.b) (sym g) ∙ flat_there)) end)
      by false f = refl

  -- then no end of s lies inside r, unless both are on one line
  no_other : (AreCollinear s r → ⊥) → (y : Point) (ys : List Point) → ends_inside r s ≡ y ∷ ys → ⊥
  no_other apart y ys f = by (between_balanced s r (whole y) (omega arith) (side_of_whole s.a s.b y ∙ own_end_flat s y there.0) (whole_between y r there.1))
    where
      there : IsOneEnd s y × (strictly_inside y r ≡ true)
      there = All-head (λ p. IsOneEnd s p × (strictly_inside p r ≡ true)) y ys (subst (All (λ p. IsOneEnd s p × (strictly_inside p r ≡ true))) f (ends_listed r s))

      by : Balanced (turn s.a s.b r.a) (turn s.a s.b r.b) → ⊥
      by (on_both h) = not_opposite s r p flat_there end h
      by (on_none h k) = apart (h, k)

  listed : Contains (ends_inside s r) p
  listed = end_listed s r p e end

  not_none : ends_inside s r ≡ [] → ⊥
  not_none f = let h = subst (λ l. Contains l p) f listed in let l = h.1 in absurd (omega arith)

  on_one : AreCollinear s r → (on_one_line s r ≡ true) × (on_one_line r s ≡ true)
  on_one h = let k = collinear_swapped s r forward h in (one_line_from s r h k, one_line_from r s k h)

  first_marked : Contains (laid_by s r (touching s r)).first p
  first_marked = by (on_one_line s r) refl (ends_inside s r) (ends_inside r s) refl
    where
      by : (l : Bool) → on_one_line s r ≡ l → (own other : List Point) → ends_inside s r ≡ own → Contains (laid_by s r (cond l (overlaid (least_of (own ++ other))) (at_end own other))).first p
      by l g [] other h = absurd (not_none h)
      by true g (x ∷ xs) other h = listed
      by false g (x ∷ xs) other h = subst (Contains (x ∷ [])) (one_listed s r p e end (λ k. false≢true (sym g ∙ (on_one k).0)) x xs h) (contains_head x [])

  second_marked : Contains (laid_by r s (touching r s)).second p
  second_marked = by (on_one_line r s) refl (ends_inside r s) (ends_inside s r) refl refl
    where
      by : (l : Bool) → on_one_line r s ≡ l → (other own : List Point) → ends_inside r s ≡ other → ends_inside s r ≡ own → Contains (laid_by r s (cond l (overlaid (least_of (other ++ own))) (at_end other own))).second p
      by l g other [] h k = absurd (not_none k)
      by true g [] (x ∷ xs) h k = listed
      by true g (y ∷ ys) (x ∷ xs) h k = listed
      by false g [] (x ∷ xs) h k = subst (Contains (x ∷ [])) (one_listed s r p e end (λ m. false≢true (sym g ∙ (on_one m).1)) x xs k) (contains_head x [])
      by false g (y ∷ ys) (x ∷ xs) h k = absurd (no_other (λ m. false≢true (sym g ∙ (on_one m).1)) y ys h)

  pub end_marked : Contains (late_marks s r).first p
  end_marked =
      either late_meeting (λ m. Contains m.first p) s r
      (subst (λ m. Contains (laid_by r s m).second p) (sym (ap (λ b. cond b (pure (rounded (crossing r s))) (touching r s)) (not_swapped s r not_crossed))) second_marked)
      (subst (λ m. Contains (laid_by s r m).first p) (sym (ap (λ b. cond b (pure (rounded (crossing s r))) (touching s r)) not_crossed)) first_marked)

-- ---- a point inside both

-- a proper crossing at a whole point marks both there
pub crossing_marked : (s r : Edge) → is_before s.a s.b ≡ true → is_before r.a r.b ≡ true → MeetsWhole s r → cross_properly s r ≡ true → (late_marks s r).first ≡ rounded (crossing s r) ∷ []
crossing_marked s r forward other_forward meets proper =
    ap (λ m. m.first) (sym (whole_marks_stay.same s r 0 meets) ∙ whole_marks_stay.crossing s r 0 forward other_forward proper (meets proper))

module _ (s r : Edge) (p : Point) (forward : is_before s.a s.b ≡ true) (other_forward : is_before r.a r.b ≡ true) (meets : MeetsWhole s r) (e : strictly_inside p s ≡ true) (f : strictly_inside p r ≡ true) where
  pub common_marked : Contains (late_marks s r).first p ⊎ AreCollinear s r
  common_marked = by (between_balanced s r (whole p) (omega arith) on_first.flat on_second) (between_balanced r s (whole p) (omega arith) on_second.flat on_first)
    where
      on_first : IsBetween (whole p) s
      on_first = whole_between p s e

      on_second : IsBetween (whole p) r
      on_second = whole_between p r f

      at_crossing : cross_properly s r ≡ true → rounded (crossing s r) ≡ p
      at_crossing proper =
          sym (same_rounded (whole p) (crossing s r) (omega arith) (crossing_is_common.is_rational s r proper)
          (one_meeting s r (whole p) (crossing s r) proper on_first.flat on_second.flat (crossing_is_common.on_first_line s r proper) (crossing_is_common.on_second_line s r proper)))
          ∙ whole_only (whole p) p (omega arith) (once p)

      marked : cross_properly s r ≡ true → Contains (late_marks s r).first p
      marked proper =
          subst (λ l. Contains l p) (sym (crossing_marked s r forward other_forward meets proper))
          (subst (Contains (rounded (crossing s r) ∷ [])) (at_crossing proper) (contains_head (rounded (crossing s r)) []))

      not_level : (m n x y : ℤ) → AreOpposite m n → x -ℤ y ≡ n -ℤ m → x ≡ pos 0 → y ≡ pos 0 → ⊥
      not_level m n x y h e f g = ⊎_elim (λ k. absurd (omega (arith, ints, k.0, k.1))) (λ k. absurd (omega (arith, ints, k.0, k.1))) h

      by : Balanced (turn s.a s.b r.a) (turn s.a s.b r.b) → Balanced (turn r.a r.b s.a) (turn r.a r.b s.b) → Contains (late_marks s r).first p ⊎ AreCollinear s r
      by (on_none h k) other = inr (h, k)
      by (on_both h) (on_none g k) = absurd (not_level (turn s.a s.b r.a) (turn s.a s.b r.b) (turn r.a r.b s.a) (turn r.a r.b s.b) h (turns_differ s r) g k)
      by (on_both h) (on_both k) =
          let first = opposite_is (turn s.a s.b r.a) (turn s.a s.b r.b) h in
          let second = opposite_is (turn r.a r.b s.a) (turn r.a r.b s.b) k in
          let proper : cross_properly s r ≡ true = rw (first, second) refl in
          inl (marked proper)

-- ---- what a mark tells

pub mark_tells : (t r : Edge) (p : Point) → is_before t.a t.b ≡ true → is_before r.a r.b ≡ true → MeetsWhole t r → Contains (late_marks t r).first p
    → IsOneEnd r p ⊎ ((cross_properly t r ≡ true) × (strictly_inside p r ≡ true))
mark_tells t r p forward other_forward meets there = by (cross_properly t r) refl
  where
    ends : cross_properly t r ≡ false → All (IsOneEnd r) (late_marks t r).first
    ends g =
        either late_meeting (λ m. All (IsOneEnd r) m.first) t r
        (subst (λ m. All (IsOneEnd r) (laid_by r t m).second) (sym (ap (λ b. cond b (pure (rounded (crossing r t))) (touching r t)) (not_swapped t r g)))
        (touching_lays (IsOneEnd t) (IsOneEnd r) r t (λ k d h. (ends_listed r t k d h).0) (λ k d h. (ends_listed t r k d h).0)).1)
        (subst (λ m. All (IsOneEnd r) (laid_by t r m).first) (sym (ap (λ b. cond b (pure (rounded (crossing t r))) (touching t r)) g))
        (touching_lays (IsOneEnd r) (IsOneEnd t) t r (λ k d h. (ends_listed t r k d h).0) (λ k d h. (ends_listed r t k d h).0)).0)

    by : (b : Bool) → cross_properly t r ≡ b → IsOneEnd r p ⊎ ((cross_properly t r ≡ true) × (strictly_inside p r ≡ true))
    by false g = inl (All-contains (IsOneEnd r) (late_marks t r).first p (ends g) there)
    by true g =
        let here : p ≡ rounded (crossing t r) = All-contains (λ q. q ≡ rounded (crossing t r)) (rounded (crossing t r) ∷ []) p (All-cons (λ q. q ≡ rounded (crossing t r)) (rounded (crossing t r)) [] refl (All-nil (λ q. q ≡ rounded (crossing t r)))) (subst (λ l. Contains l p) (crossing_marked t r forward other_forward meets g) there) in
        inr (g, ap (λ q. strictly_inside q r) here ∙ (whole_in_both t r forward other_forward g (meets g)).1)
