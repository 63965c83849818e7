-- Which of several points is met first on turning: the order round a point is a cyclic one.
use Rattle.std.proofs.Common.{◌≡◌, ℕ, zero, suc, Bool, true, false, not, cond, ◌&&◌, ◌||◌, List, [], ◌∷◌, Option, Some, None, ◌⊎◌, inl, inr, ℤ, pos, negsuc, ◌+ℤ◌, ◌-ℤ◌, ◌*ℤ◌, neg_ℤ, ◌≤ℤ◌, ◌<ℤ◌, int_lt, refl, sym, ap, ◌∙◌, arith}
use Rattle.std.specs.Prelude.{nat_lt, ◌==◌}
use Rattle.std.proofs.lemmas.Bool.{false≢true}
use Rattle.std.proofs.lemmas.Int.{ints, by_lt_z}
use Rattle.std.proofs.Math.IntN.{*ℤ_comm, *ℤ-zero, zero-*ℤ}
use Rattle.plane_base.specs.Plane.{Point, turn}
use Rattle.plane_base.proofs.Facts.Numbers.Polynomials.{var, plus, minus, times, by_ring}
use Rattle.plane_base.proofs.Facts.Numbers.Products.{product_positive, product_negative, product_of_negatives, square_not_negative, negation_product, product_of_negation}
use Rattle.plane_base.proofs.Facts.Points.Turns.{turn_swap_last, turn_end_twice}
use Rattle.segment_arrangement.proofs.Facts.ColumnPlaces.{lt_holds}
use Rattle.contour_walk.specs.Turning.{reach, turned, half_turns, is_met_before, met_first, first_by_turn}

-- ---- to which side

pub data Bend : Type 0 where
  left : Bend
  straight : Bend
  right : Bend

abbrev pub bend : ℤ → Bend
bend (pos zero) = straight
bend (pos (suc n)) = left
bend (negsuc n) = right

abbrev pub flip : Bend → Bend
flip left = right
flip straight = straight
flip right = left

abbrev pub is_left : Bend → Bool
is_left left = true
is_left straight = false
is_left right = false

abbrev pub rank : Bend → ℕ
rank left = 1
rank straight = 2
rank right = 3

pub bend_left : (z : ℤ) → pos 0 <ℤ z → bend z ≡ left
bend_left (pos zero) l = absurd (omega (arith, ints))
bend_left (pos (suc n)) l = refl
bend_left (negsuc n) l = absurd (omega (arith, ints))

pub bend_right : (z : ℤ) → z <ℤ pos 0 → bend z ≡ right
bend_right (pos zero) l = absurd (omega (arith, ints))
bend_right (pos (suc n)) l = absurd (omega (arith, ints))
bend_right (negsuc n) l = refl

pub left_tells : (z : ℤ) → bend z ≡ left → pos 0 <ℤ z
left_tells (pos zero) e = absurd (cc)
left_tells (pos (suc n)) e = omega (arith, ints)
left_tells (negsuc n) e = absurd (cc)

pub bend_straight : (z : ℤ) → bend z ≡ straight → z ≡ pos 0
bend_straight (pos zero) e = refl
bend_straight (pos (suc n)) e = absurd (cc)
bend_straight (negsuc n) e = absurd (cc)

bend_negated : (z : ℤ) → bend (neg_ℤ z) ≡ flip (bend z)
bend_negated (pos zero) = refl
bend_negated (pos (suc n)) = refl
bend_negated (negsuc n) = refl

bend_scaled : (k z : ℤ) → pos 0 <ℤ k → bend (k *ℤ z) ≡ bend z
bend_scaled k (pos zero) l = ap bend (*ℤ-zero k)
bend_scaled k (pos (suc n)) l = bend_left (k *ℤ pos (suc n)) (product_positive k (pos (suc n)) l (omega (arith, ints)))
bend_scaled k (negsuc n) l = bend_right (k *ℤ negsuc n) (product_negative k (negsuc n) l (omega (arith, ints)))

left_is : (z : ℤ) → int_lt (pos 0) z ≡ is_left (bend z)
left_is (pos zero) = refl
left_is (pos (suc n)) = grind (arith, ints)
left_is (negsuc n) = refl

-- ---- different directions

-- p and r don't lie in one direction from v
abbrev pub Apart : Point → Point → Point → Type 0
Apart v p r = turn v p r ≡ pos 0 → reach v p r <ℤ pos 0

pub apart_back : (v p r : Point) → Apart v p r → Apart v r p
apart_back v p r h e = moved (reach v p r) (reach v r p) (sums _ _ _ _ (*ℤ_comm (r.x -ℤ v.x) (p.x -ℤ v.x)) (*ℤ_comm (r.y -ℤ v.y) (p.y -ℤ v.y))) (h (negated _ _ (turn_swap_last v p r) e))
  where
    negated : (y z : ℤ) → y ≡ neg_ℤ z → z ≡ pos 0 → y ≡ pos 0
    negated y z f e = omega (arith, ints)

    sums : (a b c d : ℤ) → a ≡ b → c ≡ d → a +ℤ c ≡ b +ℤ d
    sums a b c d e f = omega (arith, ints)

    moved : (y z : ℤ) → z ≡ y → y <ℤ pos 0 → z <ℤ pos 0
    moved y z e l = omega (arith, ints)

-- a point lies in one direction with itself
pub not_apart : (v p r : Point) → Apart v p r → p ≡ r → ⊥
not_apart v p r h e = negative _ _ (square_not_negative (p.x -ℤ v.x)) (square_not_negative (p.y -ℤ v.y)) (ap (λ z. reach v p z) e) (h (ap (λ z. turn v z r) e ∙ turn_end_twice v r))
  where
    negative : (y z : ℤ) {w : ℤ} → pos 0 ≤ℤ y → pos 0 ≤ℤ z → y +ℤ z ≡ w → w <ℤ pos 0 → ⊥
    negative y z l m e k = absurd (omega (arith, ints))

-- ---- opposite directions

lagrange : (ax ay px py rx ry : ℤ) → ((ax *ℤ ax) +ℤ (ay *ℤ ay)) *ℤ ((px *ℤ ry) -ℤ (py *ℤ rx)) ≡ (((ax *ℤ px) +ℤ (ay *ℤ py)) *ℤ ((ax *ℤ ry) -ℤ (ay *ℤ rx))) -ℤ (((ax *ℤ py) -ℤ (ay *ℤ px)) *ℤ ((ax *ℤ rx) +ℤ (ay *ℤ ry)))
lagrange ax ay px py rx ry =
    by_ring (ax ∷ ay ∷ px ∷ py ∷ rx ∷ ry ∷ [])
    (times (plus (times (var 0) (var 0)) (times (var 1) (var 1))) (minus (times (var 2) (var 5)) (times (var 3) (var 4))))
    (minus (times (plus (times (var 0) (var 2)) (times (var 1) (var 3))) (minus (times (var 0) (var 5)) (times (var 1) (var 4))))
    (times (minus (times (var 0) (var 3)) (times (var 1) (var 2))) (plus (times (var 0) (var 4)) (times (var 1) (var 5)))))
    refl

lengths : (ax ay px py : ℤ) → ((ax *ℤ ax) +ℤ (ay *ℤ ay)) *ℤ ((px *ℤ px) +ℤ (py *ℤ py)) ≡ (((ax *ℤ px) +ℤ (ay *ℤ py)) *ℤ ((ax *ℤ px) +ℤ (ay *ℤ py))) +ℤ (((ax *ℤ py) -ℤ (ay *ℤ px)) *ℤ ((ax *ℤ py) -ℤ (ay *ℤ px)))
lengths ax ay px py =
    by_ring (ax ∷ ay ∷ px ∷ py ∷ [])
    (times (plus (times (var 0) (var 0)) (times (var 1) (var 1))) (plus (times (var 2) (var 2)) (times (var 3) (var 3))))
    (plus (times (plus (times (var 0) (var 2)) (times (var 1) (var 3))) (plus (times (var 0) (var 2)) (times (var 1) (var 3))))
    (times (minus (times (var 0) (var 3)) (times (var 1) (var 2))) (minus (times (var 0) (var 3)) (times (var 1) (var 2)))))
    refl

-- where a and p lie opposite, r lies on the same side on the way from p as a does on the way from r
across : (v a p r : Point) → turn v a p ≡ pos 0 → reach v a p <ℤ pos 0 → bend (turn v p r) ≡ bend (turn v r a)
across v a p r level behind =
    sym (bend_scaled (reach v a a) (turn v p r) long)
    ∙ (ap bend same
    ∙ bend_scaled (neg_ℤ (reach v a p)) (turn v r a) (positive (reach v a p) behind))
  where
    positive : (z : ℤ) → z <ℤ pos 0 → pos 0 <ℤ neg_ℤ z
    positive z l = omega (arith, ints)

    over : (n k s t : ℤ) → n ≡ s +ℤ t → pos 0 <ℤ s → pos 0 ≤ℤ t → n ≡ pos 0 → ⊥
    over n k s t e l m f = absurd (omega (arith, ints))

    none : (n k : ℤ) → pos 0 ≤ℤ n → n ≤ℤ pos 0 → n *ℤ k ≡ pos 0
    none n k l m = let e : n ≡ pos 0 = omega (arith, ints) in ap (λ z. z *ℤ k) e ∙ zero-*ℤ k

    sum : (y z : ℤ) → pos 0 ≤ℤ y → pos 0 ≤ℤ z → pos 0 ≤ℤ (y +ℤ z)
    sum y z l m = omega (arith, ints)

    long : pos 0 <ℤ reach v a a
    long =
        by_lt_z (pos 0) (reach v a a) (λ l. l)
        (λ l. absurd (over (reach v a a *ℤ reach v p p) (pos 0) _ _ (lengths (a.x -ℤ v.x) (a.y -ℤ v.y) (p.x -ℤ v.x) (p.y -ℤ v.y))
        (product_of_negatives (reach v a p) (reach v a p) behind behind) (square_not_negative (turn v a p))
        (none (reach v a a) (reach v p p) (sum _ _ (square_not_negative (a.x -ℤ v.x)) (square_not_negative (a.y -ℤ v.y))) l)))

    with_zero : (n s t u : ℤ) → n ≡ s -ℤ t → t ≡ pos 0 → s ≡ u → n ≡ u
    with_zero n s t u e f g = omega (arith, ints)

    same : reach v a a *ℤ turn v p r ≡ neg_ℤ (reach v a p) *ℤ turn v r a
    same =
        with_zero (reach v a a *ℤ turn v p r) (reach v a p *ℤ turn v a r) (turn v a p *ℤ reach v a r) _ (lagrange (a.x -ℤ v.x) (a.y -ℤ v.y) (p.x -ℤ v.x) (p.y -ℤ v.y) (r.x -ℤ v.x) (r.y -ℤ v.y))
        (ap (λ z. z *ℤ reach v a r) level ∙ zero-*ℤ (reach v a r))
        (ap (λ z. reach v a p *ℤ z) (turn_swap_last v a r) ∙ (product_of_negation (reach v a p) (turn v r a) ∙ sym (negation_product (reach v a p) (turn v r a))))

-- ---- turning either way

turned_back : (c : Bool) (v p r : Point) → turned c v p r ≡ neg_ℤ (turned c v r p)
turned_back true v p r = turn_swap_last v r p
turned_back false v p r = turn_swap_last v p r

bend_back : (c : Bool) (v p r : Point) → bend (turned c v p r) ≡ flip (bend (turned c v r p))
bend_back c v p r = ap bend (turned_back c v p r) ∙ bend_negated (turned c v r p)

turned_otherwise : (c : Bool) (v p r : Point) → turned (not c) v p r ≡ turned c v r p
turned_otherwise true v p r = refl
turned_otherwise false v p r = refl

behind : (c : Bool) (v a p : Point) → Apart v a p → turned c v a p ≡ pos 0 → reach v a p <ℤ pos 0
behind true v a p h e = h (negated _ _ (turn_swap_last v a p) e)
  where
    negated : (y z : ℤ) → y ≡ neg_ℤ z → z ≡ pos 0 → y ≡ pos 0
    negated y z f e = omega (arith, ints)
behind false v a p h e = h e

bend_across : (c : Bool) (v a p r : Point) → Apart v a p → bend (turned c v a p) ≡ straight → bend (turned c v p r) ≡ bend (turned c v r a)
bend_across false v a p r h e = across v a p r (bend_straight (turn v a p) e) (h (bend_straight (turn v a p) e))
bend_across true v a p r h e =
    bend_back true v p r
    ∙ (ap flip (across v a p r level (h level))
    ∙ sym (bend_back true v r a))
  where
    negated : (y z : ℤ) → y ≡ neg_ℤ z → z ≡ pos 0 → y ≡ pos 0
    negated y z f e = omega (arith, ints)

    level : turn v a p ≡ pos 0
    level = negated _ _ (turn_swap_last v a p) (bend_straight (turn v p a) e)

-- ---- which is met first

abbrev pub first_of_two : ℕ → ℕ → Bool → Bool
first_of_two h k w = nat_lt h k || ((h == k) && w)

half_is : (c : Bool) (v a p : Point) → Apart v a p → half_turns c v a p ≡ rank (bend (turned c v a p))
half_is c v a p h = by (turned c v a p) (reach v a p) (behind c v a p h)
  where
    by : (t d : ℤ) → (t ≡ pos 0 → d <ℤ pos 0) → cond (int_lt (pos 0) t) 1 (cond (int_lt t (pos 0)) 3 (cond (int_lt d (pos 0)) 2 4)) ≡ rank (bend t)
    by (pos zero) d k = ap (λ b. cond b 2 4) (lt_holds d (pos 0) (k refl))
    by (pos (suc n)) d k = ap (λ b. cond b 1 (cond (int_lt (pos (suc n)) (pos 0)) 3 (cond (int_lt d (pos 0)) 2 4))) (left_is (pos (suc n)))
    by (negsuc n) d k = refl

pub met_is : (c : Bool) (v a p r : Point) → Apart v a p → Apart v a r
    → is_met_before c v a p r ≡ first_of_two (rank (bend (turned c v a p))) (rank (bend (turned c v a r))) (is_left (bend (turned c v p r)))
met_is c v a p r h k =
    ap (λ n. first_of_two n (half_turns c v a r) (int_lt (pos 0) (turned c v p r))) (half_is c v a p h)
    ∙ (ap (λ n. first_of_two (rank (bend (turned c v a p))) n (int_lt (pos 0) (turned c v p r))) (half_is c v a r k)
    ∙ ap (λ b. first_of_two (rank (bend (turned c v a p))) (rank (bend (turned c v a r))) b) (left_is (turned c v p r)))

-- the three lie in different directions from v, and turning from a one meets p before r
pub record Turns (c : Bool) (v a p r : Point) : Type 0 where
  pub first : Apart v a p
  pub second : Apart v p r
  pub third : Apart v r a
  pub met : is_met_before c v a p r ≡ true

round_about : (x y z : Bend) → (x ≡ straight → y ≡ z) → (y ≡ straight → z ≡ x) → (z ≡ straight → x ≡ y) → first_of_two (rank x) (rank (flip z)) (is_left y) ≡ true
    → first_of_two (rank y) (rank (flip x)) (is_left z) ≡ true
round_about left left left px py pz e = refl
round_about left left straight px py pz e = refl
round_about left left right px py pz e = refl
round_about left straight left px py pz e = refl
round_about left straight straight px py pz e = refl
round_about left straight right px py pz e = refl
round_about left right left px py pz e = refl
round_about left right straight px py pz e = absurd (let e = pz refl in cc)
round_about left right right px py pz e = absurd (false≢true e)
round_about straight left left px py pz e = refl
round_about straight left straight px py pz e = refl
round_about straight left right px py pz e = refl
round_about straight straight left px py pz e = refl
round_about straight straight straight px py pz e = absurd (false≢true e)
round_about straight straight right px py pz e = absurd (false≢true e)
round_about straight right left px py pz e = absurd (let e = px refl in cc)
round_about straight right straight px py pz e = absurd (false≢true e)
round_about straight right right px py pz e = absurd (false≢true e)
round_about right left left px py pz e = refl
round_about right left straight px py pz e = absurd (false≢true e)
round_about right left right px py pz e = absurd (false≢true e)
round_about right straight left px py pz e = absurd (false≢true e)
round_about right straight straight px py pz e = absurd (false≢true e)
round_about right straight right px py pz e = absurd (false≢true e)
round_about right right left px py pz e = absurd (false≢true e)
round_about right right straight px py pz e = absurd (false≢true e)
round_about right right right px py pz e = absurd (false≢true e)

-- it doesn't matter from which of the three one turns
pub turns_on : (c : Bool) (v a p r : Point) → Turns c v a p r → Turns c v p r a
turns_on c v a p r h = record {
  first = h.second;
  second = h.third;
  third = h.first;
  met =
      met_is c v p r a h.second (apart_back v a p h.first)
      ∙ (ap (λ b. first_of_two (rank (bend (turned c v p r))) (rank b) (is_left (bend (turned c v r a)))) (bend_back c v p a)
      ∙ round_about (bend (turned c v a p)) (bend (turned c v p r)) (bend (turned c v r a)) (bend_across c v a p r h.first) (bend_across c v p r a h.second) (bend_across c v r a p h.third)
      (ap (λ b. first_of_two (rank (bend (turned c v a p))) (rank b) (is_left (bend (turned c v p r)))) (sym (bend_back c v a r))
      ∙ (sym (met_is c v a p r h.first (apart_back v r a h.third)) ∙ h.met)));
}

other_way : (x y : Bend) (w : Bool) → first_of_two (rank x) (rank y) w ≡ true → first_of_two (rank (flip y)) (rank (flip x)) w ≡ true
other_way left left w e = e
other_way left straight w e = refl
other_way left right w e = refl
other_way straight left w e = absurd (false≢true e)
other_way straight straight w e = e
other_way straight right w e = refl
other_way right left w e = absurd (false≢true e)
other_way right straight w e = absurd (false≢true e)
other_way right right w e = e

-- turning the other way one meets them in the other order
pub turns_otherwise : (c : Bool) (v a p r : Point) → Turns c v a p r → Turns (not c) v a r p
turns_otherwise c v a p r h = record {
  first = apart_back v r a h.third;
  second = apart_back v p r h.second;
  third = apart_back v a p h.first;
  met =
      met_is (not c) v a r p (apart_back v r a h.third) h.first
      ∙ (ap₃ (otherwise a r) (otherwise a p) (ap bend (turned_otherwise c v r p))
      ∙ other_way (bend (turned c v a p)) (bend (turned c v a r)) (is_left (bend (turned c v p r))) (sym (met_is c v a p r h.first (apart_back v r a h.third)) ∙ h.met));
}
  where
    otherwise : (s t : Point) → bend (turned (not c) v s t) ≡ flip (bend (turned c v s t))
    otherwise s t = ap bend (turned_otherwise c v s t) ∙ bend_back c v t s

    ap₃ : {x x' y y' w w' : Bend} → x ≡ x' → y ≡ y' → w ≡ w' → first_of_two (rank x) (rank y) (is_left w) ≡ first_of_two (rank x') (rank y') (is_left w')
    ap₃ {x} {x'} {y} {y'} {w} {w'} e f g =
        ap (λ b. first_of_two (rank b) (rank y) (is_left w)) e
        ∙ (ap (λ b. first_of_two (rank x') (rank b) (is_left w)) f ∙ ap (λ b. first_of_two (rank x') (rank y') (is_left b)) g)

never_both : (x y w : Bend) → first_of_two (rank x) (rank y) (is_left w) ≡ true → first_of_two (rank y) (rank x) (is_left (flip w)) ≡ false
never_both left left left e = refl
never_both left left straight e = refl
never_both left left right e = absurd (false≢true e)
never_both left straight w e = refl
never_both left right w e = refl
never_both straight left w e = absurd (false≢true e)
never_both straight straight left e = refl
never_both straight straight straight e = refl
never_both straight straight right e = absurd (false≢true e)
never_both straight right w e = refl
never_both right left w e = absurd (false≢true e)
never_both right straight w e = absurd (false≢true e)
never_both right right left e = refl
never_both right right straight e = refl
never_both right right right e = absurd (false≢true e)

-- what is met before is not met after
pub not_met : (c : Bool) (v a p r : Point) → Turns c v a p r → is_met_before c v a r p ≡ false
not_met c v a p r h =
    met_is c v a r p (apart_back v r a h.third) h.first
    ∙ (ap (λ b. first_of_two (rank (bend (turned c v a r))) (rank (bend (turned c v a p))) (is_left b)) (bend_back c v r p)
    ∙ never_both (bend (turned c v a p)) (bend (turned c v a r)) (bend (turned c v p r)) (sym (met_is c v a p r h.first (apart_back v r a h.third)) ∙ h.met))

pub never_both_ways : (c : Bool) (v a p r : Point) → Turns c v a p r → Turns c v a r p → ⊥
never_both_ways c v a p r h k = false≢true (sym (not_met c v a p r h) ∙ k.met)

-- ---- the first of a list

abbrev pub Has : {A : Type 0} → List A → A → Type 0
Has [] x = ⊥
Has (y ∷ ys) x = (y ≡ x) ⊎ Has ys x

module _ (c : Bool) (v a : Point) where
  one_of_list : (ps : List Point) (r : Point) → first_by_turn c v a ps ≡ Some r → Has ps r
  one_of_list [] r e = absurd (cc)
  one_of_list (p ∷ ps) r e = by (λ q. one_of_list ps q) (first_by_turn c v a ps) refl e
    where
      some : {x y : Point} → Some x ≡ Some y → x ≡ y
      some h = cc

      by : ((q : Point) → first_by_turn c v a ps ≡ Some q → Has ps q) → (o : Option Point) → first_by_turn c v a ps ≡ o → Some (met_first c v a p o) ≡ Some r → Has (p ∷ ps) r
      by within None f g = inl (some g)
      by within (Some q) f g = either (is_met_before c v a q p) (some g)
        where
          either : (b : Bool) → cond b q p ≡ r → Has (p ∷ ps) r
          either true h = inr (within r (f ∙ ap Some h))
          either false h = inl h

  -- the point of the list that is met before all others
  pub first_is : (w : Point) (ps : List Point) → Has ps w → ((r : Point) → Has ps r → (r ≡ w) ⊎ Turns c v a w r) → first_by_turn c v a ps ≡ Some w
  first_is w [] here others = absurd here
  first_is w (p ∷ ps) (inl e) others = by (first_by_turn c v a ps) refl
    where
      by : (o : Option Point) → first_by_turn c v a ps ≡ o → Some (met_first c v a p o) ≡ Some w
      by None f = ap Some e
      by (Some q) f = found (others q (inr (one_of_list ps q f)))
        where
          found : (q ≡ w) ⊎ Turns c v a w q → Some (cond (is_met_before c v a q p) q p) ≡ Some w
          found (inl g) = either (is_met_before c v a q p)
            where
              either : (b : Bool) → Some (cond b q p) ≡ Some w
              either true = ap Some g
              either false = ap Some e
          found (inr h) = ap (λ b. Some (cond b q p)) (ap (λ z. is_met_before c v a q z) e ∙ not_met c v a w q h) ∙ ap Some e
  first_is w (p ∷ ps) (inr here) others = ap (λ o. Some (met_first c v a p o)) (first_is w ps here (λ r k. others r (inr k))) ∙ found (others p (inl refl))
    where
      found : (p ≡ w) ⊎ Turns c v a w p → Some (cond (is_met_before c v a w p) w p) ≡ Some w
      found (inl e) = either (is_met_before c v a w p)
        where
          either : (b : Bool) → Some (cond b w p) ≡ Some w
          either true = refl
          either false = ap Some e
      found (inr h) = ap (λ b. Some (cond b w p)) h.met
