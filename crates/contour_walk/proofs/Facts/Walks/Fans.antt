-- The points round a node, first those after it and then those before it, each to the left of the one before: they are met in this
-- order on turning counterclockwise from any of them.
use Rattle.std.proofs.Common.{◌≡◌, Bool, true, false, List, [], ◌∷◌, ◌++◌, map, filter, cond, ◌⊎◌, inl, inr, ℤ, pos, ◌+ℤ◌, ◌-ℤ◌, ◌*ℤ◌, neg_ℤ, ◌≤ℤ◌, ◌<ℤ◌, refl, sym, ap, ◌∙◌, arith}
use Rattle.std.proofs.lemmas.Int.{ints}
use Rattle.std.proofs.Math.IntN.{*ℤ-zero, zero-*ℤ}
use Rattle.plane_base.specs.Plane.{Point, turn}
use Rattle.plane_base.proofs.Facts.Numbers.Polynomials.{var, plus, minus, times, opposite, by_ring}
use Rattle.plane_base.proofs.Facts.Numbers.Products.{factor_not_negative, product_positive, product_negative, product_not_negative, square_not_negative, factor_positive, factor_negative}
use Rattle.contour_walk.proofs.Facts.Walks.Turns.{Bend, left, straight, right, bend, bend_left, left_tells, is_left, rank, first_of_two, met_is, Apart}
use Rattle.contour_walk.proofs.Facts.Walks.Turns.{apart_back, Turns, turns_on}
use Rattle.contour_walk.proofs.Facts.Walks.Rings.{Each, Pairs, Triples, each_weaker, each_append, pairs_weaker}

-- ---- lists of pairs and triples

module _ {A : Type 0} where
  pub pairs_append : (R : A → A → Type 0) (xs ys : List A) → Pairs R xs → Pairs R ys → Each (λ x. Each (R x) ys) xs → Pairs R (xs ++ ys)
  pairs_append R [] ys h k l = k
  pairs_append R (x ∷ xs) ys h k l = (each_append (R x) xs ys h.0 l.0, pairs_append R xs ys h.1 k l.1)

  triples_append : (R : A → A → A → Type 0) (xs ys : List A) → Triples R xs → Triples R ys → Pairs (λ x y. Each (R x y) ys) xs → Each (λ x. Pairs (R x) ys) xs → Triples R (xs ++ ys)
  triples_append R [] ys h k l m = k
  triples_append R (x ∷ xs) ys h k l m = (pairs_append (R x) xs ys h.0 m.0 l.0, triples_append R xs ys h.1 k l.1 m.1)

  each_with : (P Q : A → Type 0) (xs : List A) → Each P xs → Each Q xs → Each (λ x. P x × Q x) xs
  each_with P Q [] h k = tt
  each_with P Q (x ∷ xs) h k = ((h.0, k.0), each_with P Q xs h.1 k.1)

  -- what holds of each holds of both of a pair
  pub pairs_with : (P : A → Type 0) (R : A → A → Type 0) (xs : List A) → Each P xs → Pairs R xs → Pairs (λ x y. P x × P y × R x y) xs
  pairs_with P R [] h k = tt
  pairs_with P R (x ∷ xs) h k =
      (each_weaker (λ y. P y × R x y) (λ y. P x × P y × R x y) (λ y l. (h.0, l.0, l.1)) xs (each_with P (R x) xs h.1 k.0), pairs_with P R xs h.1 k.1)

  triples_from_pairs : (R : A → A → Type 0) (S : A → A → A → Type 0) → ((x y z : A) → R x y → R x z → R y z → S x y z) → (xs : List A) → Pairs R xs → Triples S xs
  triples_from_pairs R S f [] h = tt
  triples_from_pairs R S f (x ∷ xs) h =
      (pairs_weaker (λ y z. R x y × R x z × R y z) (S x) (λ y z k. f x y z k.0 k.1 k.2) xs (pairs_with (R x) R xs h.0 h.1), triples_from_pairs R S f xs h.1)

  pub triples_filter : (keep : A → Bool) (R : A → A → A → Type 0) → ((S : A → A → Type 0) (xs : List A) → Pairs S xs → Pairs S (filter keep xs)) → (xs : List A) → Triples R xs → Triples R (filter keep xs)
  triples_filter keep R pairs [] h = tt
  triples_filter keep R pairs (x ∷ xs) h = by (keep x) (triples_filter keep R pairs xs h.1)
    where
      by : (b : Bool) → Triples R (filter keep xs) → Triples R (cond b (x ∷ filter keep xs) (filter keep xs))
      by true k = (pairs (R x) xs h.0, k)
      by false k = k

module _ {A B : Type 0} (f : A → B) where
  pub each_map : (P : B → Type 0) (xs : List A) → Each (λ x. P (f x)) xs → Each P (map f xs)
  each_map P [] h = tt
  each_map P (x ∷ xs) h = (h.0, each_map P xs h.1)

  pub pairs_map : (R : B → B → Type 0) (xs : List A) → Pairs (λ x y. R (f x) (f y)) xs → Pairs R (map f xs)
  pairs_map R [] h = tt
  pairs_map R (x ∷ xs) h = (each_map (R (f x)) xs h.0, pairs_map R xs h.1)

  pub triples_map : (R : B → B → B → Type 0) (xs : List A) → Triples (λ x y z. R (f x) (f y) (f z)) xs → Triples R (map f xs)
  triples_map R [] h = tt
  triples_map R (x ∷ xs) h = (pairs_map (R (f x)) xs h.0, triples_map R xs h.1)

-- ---- vectors

abbrev crossed : ℤ → ℤ → ℤ → ℤ → ℤ
crossed ax ay bx by = (ax *ℤ by) -ℤ (ay *ℤ bx)

-- to the right of the vertical line, or straight up
abbrev Rightward : ℤ → ℤ → Type 0
Rightward x y = (pos 0 <ℤ x) ⊎ ((x ≡ pos 0) × (pos 0 <ℤ y))

abbrev Leftward : ℤ → ℤ → Type 0
Leftward x y = (x <ℤ pos 0) ⊎ ((x ≡ pos 0) × (y <ℤ pos 0))

none_before : (y z : ℤ) → y ≡ pos 0 → y *ℤ z ≡ pos 0
none_before y z e = ap (λ w. w *ℤ z) e ∙ zero-*ℤ z

none_after : (y z : ℤ) → z ≡ pos 0 → y *ℤ z ≡ pos 0
none_after y z e = ap (λ w. y *ℤ w) e ∙ *ℤ-zero y

not_negative : (x y : ℤ) → Rightward x y → pos 0 ≤ℤ x
not_negative x y (inl h) = omega (arith, ints)
not_negative x y (inr h) = omega (arith, ints, h.0)

not_positive : (x y : ℤ) → Leftward x y → x ≤ℤ pos 0
not_positive x y (inl h) = omega (arith, ints)
not_positive x y (inr h) = omega (arith, ints, h.0)

three : (px py qx qy rx ry : ℤ) → px *ℤ crossed qx qy rx ry ≡ (qx *ℤ crossed px py rx ry) -ℤ (rx *ℤ crossed px py qx qy)
three px py qx qy rx ry =
    by_ring (px ∷ py ∷ qx ∷ qy ∷ rx ∷ ry ∷ []) (times (var 0) (minus (times (var 2) (var 5)) (times (var 3) (var 4))))
    (minus (times (var 2) (minus (times (var 0) (var 5)) (times (var 1) (var 4)))) (times (var 4) (minus (times (var 0) (var 3)) (times (var 1) (var 2))))) refl

-- Of p and q to the right, and r to the left, where p turns left to q and to r so does q to r.
turns_past : (px py qx qy rx ry : ℤ) → Rightward px py → Rightward qx qy → Leftward rx ry → pos 0 <ℤ crossed px py qx qy → pos 0 <ℤ crossed px py rx ry → pos 0 <ℤ crossed qx qy rx ry
turns_past px py qx qy rx ry (inr h) q r m n =
    absurd (flat (px *ℤ qy) (py *ℤ qx) (none_before px qy h.0) (product_not_negative py qx (weak py h.1) (not_negative qx qy q)) m)
  where
    weak : (z : ℤ) → pos 0 <ℤ z → pos 0 ≤ℤ z
    weak z l = omega (arith, ints)

    flat : (y z : ℤ) → y ≡ pos 0 → pos 0 ≤ℤ z → pos 0 <ℤ (y -ℤ z) → ⊥
    flat y z e l k = absurd (omega (arith, ints))
turns_past px py qx qy rx ry (inl h) (inl q) r m n =
    factor_positive px (crossed qx qy rx ry) h
    (over _ _ _ (three px py qx qy rx ry) (product_positive qx (crossed px py rx ry) q n) (swapped rx (crossed px py qx qy) (not_positive rx ry r) m))
  where
    over : (w y z : ℤ) → w ≡ y -ℤ z → pos 0 <ℤ y → z ≤ℤ pos 0 → pos 0 <ℤ w
    over w y z e l k = omega (arith, ints)

    swapped : (y z : ℤ) → y ≤ℤ pos 0 → pos 0 <ℤ z → (y *ℤ z) ≤ℤ pos 0
    swapped y z l k = grind (arith, ints)
turns_past px py qx qy rx ry (inl h) (inr q) (inl r) m n =
    factor_positive px (crossed qx qy rx ry) h
    (over _ _ _ (three px py qx qy rx ry) (none_before qx (crossed px py rx ry) q.0) (swapped rx (crossed px py qx qy) r m))
  where
    over : (w y z : ℤ) → w ≡ y -ℤ z → y ≡ pos 0 → z <ℤ pos 0 → pos 0 <ℤ w
    over w y z e l k = omega (arith, ints)

    swapped : (y z : ℤ) → y <ℤ pos 0 → pos 0 <ℤ z → (y *ℤ z) <ℤ pos 0
    swapped y z l k = grind (arith, ints)
turns_past px py qx qy rx ry (inl h) (inr q) (inr r) m n =
    absurd (below (px *ℤ ry) (py *ℤ rx) (product_negative px ry h r.1) (none_after py rx r.0) n)
  where
    below : (y z : ℤ) → y <ℤ pos 0 → z ≡ pos 0 → pos 0 <ℤ (y -ℤ z) → ⊥
    below y z l e k = absurd (omega (arith, ints))

crossed_negated : (ax ay bx by : ℤ) → crossed ax ay bx by ≡ crossed (neg_ℤ ax) (neg_ℤ ay) (neg_ℤ bx) (neg_ℤ by)
crossed_negated ax ay bx by =
    by_ring (ax ∷ ay ∷ bx ∷ by ∷ []) (minus (times (var 0) (var 3)) (times (var 1) (var 2)))
    (minus (times (opposite (var 0)) (opposite (var 3))) (times (opposite (var 1)) (opposite (var 2)))) refl

to_right : (x y : ℤ) → Leftward x y → Rightward (neg_ℤ x) (neg_ℤ y)
to_right x y (inl h) = inl (omega (arith, ints))
to_right x y (inr h) = inr (omega (arith, ints, h.0), omega (arith, ints, h.1))

to_left : (x y : ℤ) → Rightward x y → Leftward (neg_ℤ x) (neg_ℤ y)
to_left x y (inl h) = inl (omega (arith, ints))
to_left x y (inr h) = inr (omega (arith, ints, h.0), omega (arith, ints, h.1))

-- the same half a turn further
turns_past_back : (px py qx qy rx ry : ℤ) → Leftward px py → Leftward qx qy → Rightward rx ry → pos 0 <ℤ crossed px py qx qy → pos 0 <ℤ crossed px py rx ry → pos 0 <ℤ crossed qx qy rx ry
turns_past_back px py qx qy rx ry p q r m n =
    moved _ _ (crossed_negated qx qy rx ry)
    (turns_past (neg_ℤ px) (neg_ℤ py) (neg_ℤ qx) (neg_ℤ qy) (neg_ℤ rx) (neg_ℤ ry) (to_right px py p) (to_right qx qy q) (to_left rx ry r)
    (moved _ _ (sym (crossed_negated px py qx qy)) m) (moved _ _ (sym (crossed_negated px py rx ry)) n))
  where
    moved : (y z : ℤ) → y ≡ z → pos 0 <ℤ z → pos 0 <ℤ y
    moved y z e l = omega (arith, ints)

-- to both sides, on one line: they lie opposite
opposite_sides : (px py rx ry : ℤ) → Rightward px py → Leftward rx ry → crossed px py rx ry ≡ pos 0 → ((px *ℤ rx) +ℤ (py *ℤ ry)) <ℤ pos 0
opposite_sides px py rx ry (inr h) r e = by r
  where
    level : (y z : ℤ) → y ≡ pos 0 → y -ℤ z ≡ pos 0 → z ≡ pos 0
    level y z f g = omega (arith, ints)

    sum : (y z : ℤ) → y ≡ pos 0 → z <ℤ pos 0 → (y +ℤ z) <ℤ pos 0
    sum y z f l = omega (arith, ints)

    below : (z : ℤ) → pos 0 <ℤ py → z <ℤ pos 0 → (py *ℤ z) ≡ pos 0 → ⊥
    below z l m f = contradict (py *ℤ z) (product_negative py z l m) f
      where
        contradict : (y : ℤ) → y <ℤ pos 0 → y ≡ pos 0 → ⊥
        contradict y l f = absurd (omega (arith, ints))

    by : Leftward rx ry → ((px *ℤ rx) +ℤ (py *ℤ ry)) <ℤ pos 0
    by (inl l) = absurd (below rx h.1 l (level (px *ℤ ry) (py *ℤ rx) (none_before px ry h.0) e))
    by (inr k) = sum (px *ℤ rx) (py *ℤ ry) (none_before px rx h.0) (product_negative py ry h.1 k.1)
opposite_sides px py rx ry (inl h) (inr r) e = absurd (below (px *ℤ ry) (py *ℤ rx) (product_negative px ry h r.1) (none_after py rx r.0) e)
  where
    below : (y z : ℤ) → y <ℤ pos 0 → z ≡ pos 0 → y -ℤ z ≡ pos 0 → ⊥
    below y z l f g = absurd (omega (arith, ints))
opposite_sides px py rx ry (inl h) (inl r) e =
    factor_negative px ((px *ℤ rx) +ℤ (py *ℤ ry)) h
    (moved _ _ _ (same px py rx ry) (ap (λ z. py *ℤ z) e) (*ℤ-zero py) (shrunk rx ((px *ℤ px) +ℤ (py *ℤ py)) r (sum _ _ (product_positive px px h h) (square_not_negative py))))
  where
    same : (ax ay bx by : ℤ) → ax *ℤ ((ax *ℤ bx) +ℤ (ay *ℤ by)) ≡ (bx *ℤ ((ax *ℤ ax) +ℤ (ay *ℤ ay))) +ℤ (ay *ℤ crossed ax ay bx by)
    same ax ay bx by =
        by_ring (ax ∷ ay ∷ bx ∷ by ∷ []) (times (var 0) (plus (times (var 0) (var 2)) (times (var 1) (var 3))))
        (plus (times (var 2) (plus (times (var 0) (var 0)) (times (var 1) (var 1)))) (times (var 1) (minus (times (var 0) (var 3)) (times (var 1) (var 2))))) refl

    sum : (y z : ℤ) → pos 0 <ℤ y → pos 0 ≤ℤ z → pos 0 <ℤ (y +ℤ z)
    sum y z l m = omega (arith, ints)

    shrunk : (y z : ℤ) → y <ℤ pos 0 → pos 0 <ℤ z → (y *ℤ z) <ℤ pos 0
    shrunk y z l k = grind (arith, ints)

    moved : (w y z : ℤ) {n : ℤ} → w ≡ y +ℤ z → z ≡ n → n ≡ pos 0 → y <ℤ pos 0 → w <ℤ pos 0
    moved w y z e f g l = omega (arith, ints)

-- Of three to the right, what is not to the right of what is not to the right of p is not to the right of p.
not_right_through : (px py qx qy rx ry : ℤ) → Rightward px py → Rightward qx qy → Rightward rx ry → pos 0 ≤ℤ crossed px py qx qy → pos 0 ≤ℤ crossed qx qy rx ry → pos 0 ≤ℤ crossed px py rx ry
not_right_through px py qx qy rx ry p (inl q) r l m =
    factor_not_negative qx (crossed px py rx ry) q
    (sum _ _ _ (three_again px py qx qy rx ry) (product_not_negative px (crossed qx qy rx ry) (not_negative px py p) m) (product_not_negative rx (crossed px py qx qy) (not_negative rx ry r) l))
  where
    sum : (w y z : ℤ) → w ≡ y +ℤ z → pos 0 ≤ℤ y → pos 0 ≤ℤ z → pos 0 ≤ℤ w
    sum w y z e l m = omega (arith, ints)

    three_again : (px py qx qy rx ry : ℤ) → qx *ℤ crossed px py rx ry ≡ (px *ℤ crossed qx qy rx ry) +ℤ (rx *ℤ crossed px py qx qy)
    three_again px py qx qy rx ry =
        by_ring (px ∷ py ∷ qx ∷ qy ∷ rx ∷ ry ∷ []) (times (var 2) (minus (times (var 0) (var 5)) (times (var 1) (var 4))))
        (plus (times (var 0) (minus (times (var 2) (var 5)) (times (var 3) (var 4)))) (times (var 4) (minus (times (var 0) (var 3)) (times (var 1) (var 2))))) refl
not_right_through px py qx qy rx ry p (inr q) (inl r) l m = absurd (below (qx *ℤ ry) (qy *ℤ rx) (none_before qx ry q.0) (product_positive qy rx q.1 r) m)
  where
    below : (y z : ℤ) → y ≡ pos 0 → pos 0 <ℤ z → pos 0 ≤ℤ (y -ℤ z) → ⊥
    below y z e k f = absurd (omega (arith, ints))
not_right_through px py qx qy rx ry p (inr q) (inr r) l m = above (px *ℤ ry) (py *ℤ rx) (product_not_negative px ry (not_negative px py p) (weak ry r.1)) (none_after py rx r.0)
  where
    weak : (z : ℤ) → pos 0 <ℤ z → pos 0 ≤ℤ z
    weak z k = omega (arith, ints)

    above : (y z : ℤ) → pos 0 ≤ℤ y → z ≡ pos 0 → pos 0 ≤ℤ (y -ℤ z)
    above y z k e = omega (arith, ints)

-- Two to the right on one line don't lie opposite.
same_side : (px py rx ry : ℤ) → Rightward px py → Rightward rx ry → crossed px py rx ry ≡ pos 0 → ((px *ℤ rx) +ℤ (py *ℤ ry)) <ℤ pos 0 → ⊥
same_side px py rx ry (inl p) r e l =
    negative _ (factor_not_negative px ((px *ℤ rx) +ℤ (py *ℤ ry)) p
    (sum _ _ _ (along px py rx ry) (product_not_negative rx ((px *ℤ px) +ℤ (py *ℤ py)) (not_negative rx ry r) (both _ _ (square_not_negative px) (square_not_negative py))) (none_after py (crossed px py rx ry) e))) l
  where
    negative : (z : ℤ) → pos 0 ≤ℤ z → z <ℤ pos 0 → ⊥
    negative z k l = absurd (omega (arith, ints))

    both : (y z : ℤ) → pos 0 ≤ℤ y → pos 0 ≤ℤ z → pos 0 ≤ℤ (y +ℤ z)
    both y z k l = omega (arith, ints)

    sum : (w y z : ℤ) → w ≡ y +ℤ z → pos 0 ≤ℤ y → z ≡ pos 0 → pos 0 ≤ℤ w
    sum w y z e l m = omega (arith, ints)

    along : (ax ay bx by : ℤ) → ax *ℤ ((ax *ℤ bx) +ℤ (ay *ℤ by)) ≡ (bx *ℤ ((ax *ℤ ax) +ℤ (ay *ℤ ay))) +ℤ (ay *ℤ crossed ax ay bx by)
    along ax ay bx by =
        by_ring (ax ∷ ay ∷ bx ∷ by ∷ []) (times (var 0) (plus (times (var 0) (var 2)) (times (var 1) (var 3))))
        (plus (times (var 2) (plus (times (var 0) (var 0)) (times (var 1) (var 1)))) (times (var 1) (minus (times (var 0) (var 3)) (times (var 1) (var 2))))) refl
same_side px py rx ry (inr p) (inl r) e l = below (px *ℤ ry) (py *ℤ rx) (none_before px ry p.0) (product_positive py rx p.1 r) e
  where
    below : (y z : ℤ) → y ≡ pos 0 → pos 0 <ℤ z → y -ℤ z ≡ pos 0 → ⊥
    below y z e k f = absurd (omega (arith, ints))
same_side px py rx ry (inr p) (inr r) e l = above (px *ℤ rx) (py *ℤ ry) (none_before px rx p.0) (product_positive py ry p.1 r.1) l
  where
    above : (y z : ℤ) → y ≡ pos 0 → pos 0 <ℤ z → (y +ℤ z) <ℤ pos 0 → ⊥
    above y z e k f = absurd (omega (arith, ints))

-- ---- points round a node

module _ (v : Point) where
  abbrev pub After : Point → Type 0
  After p = Rightward (p.x -ℤ v.x) (p.y -ℤ v.y)

  abbrev pub Before : Point → Type 0
  Before p = Leftward (p.x -ℤ v.x) (p.y -ℤ v.y)

  abbrev pub ToLeft : Point → Point → Type 0
  ToLeft p r = pos 0 <ℤ turn v p r

  apart_left : (p r : Point) → ToLeft p r → Apart v p r
  apart_left p r l e = absurd (clash (turn v p r) l e)
    where
      clash : (z : ℤ) → pos 0 <ℤ z → z ≡ pos 0 → ⊥
      clash z l e = absurd (omega (arith, ints))

  apart_sides : (p r : Point) → After p → Before r → Apart v p r
  apart_sides p r a b e = opposite_sides (p.x -ℤ v.x) (p.y -ℤ v.y) (r.x -ℤ v.x) (r.y -ℤ v.y) a b e

  pub not_right_on : (p q r : Point) → After p → After q → After r → pos 0 ≤ℤ turn v p q → pos 0 ≤ℤ turn v q r → pos 0 ≤ℤ turn v p r
  not_right_on p q r a b c l m = not_right_through (p.x -ℤ v.x) (p.y -ℤ v.y) (q.x -ℤ v.x) (q.y -ℤ v.y) (r.x -ℤ v.x) (r.y -ℤ v.y) a b c l m

  pub after_decided : (p r : Point) → After p → After r → Apart v p r → turn v p r ≡ pos 0 → ⊥
  after_decided p r a b h e = same_side (p.x -ℤ v.x) (p.y -ℤ v.y) (r.x -ℤ v.x) (r.y -ℤ v.y) a b e (h e)

  -- p is to the right of q, and what is beyond q from p is to the left of q
  met_past : (p q r : Point) → ToLeft p q → Apart v q r → Apart v r p → (pos 0 <ℤ turn v p r → pos 0 <ℤ turn v q r) → Turns false v p q r
  met_past p q r l second third past = record {
    first = apart_left p q l;
    second = second;
    third = third;
    met =
        met_is false v p q r (apart_left p q l) (apart_back v r p third)
        ∙ (ap (λ b. first_of_two (rank b) (rank (bend (turn v p r))) (is_left (bend (turn v q r)))) (bend_left (turn v p q) l) ∙ by (turn v p r) past);
  }
    where
      by : (z : ℤ) → (pos 0 <ℤ z → pos 0 <ℤ turn v q r) → first_of_two 1 (rank (bend z)) (is_left (bend (turn v q r))) ≡ true
      by z k = either (bend z) refl
        where
          either : (b : Bend) → bend z ≡ b → first_of_two 1 (rank b) (is_left (bend (turn v q r))) ≡ true
          either left e = ap is_left (bend_left (turn v q r) (k (left_tells z e)))
          either straight e = refl
          either right e = refl

  one_side : (p q r : Point) → ToLeft p q → ToLeft p r → ToLeft q r → Turns false v p q r
  one_side p q r l m n = met_past p q r l (apart_left q r n) (apart_back v p r (apart_left p r m)) (λ k. n)

  two_after : (p q r : Point) → After p → After q → Before r → ToLeft p q → Turns false v p q r
  two_after p q r a b c l =
      met_past p q r l (apart_sides q r b c) (apart_back v p r (apart_sides p r a c))
      (λ k. turns_past (p.x -ℤ v.x) (p.y -ℤ v.y) (q.x -ℤ v.x) (q.y -ℤ v.y) (r.x -ℤ v.x) (r.y -ℤ v.y) a b c l k)

  two_before : (p q r : Point) → Before p → Before q → After r → ToLeft p q → Turns false v r p q
  two_before p q r a b c l =
      turns_on false v q r p (turns_on false v p q r (met_past p q r l (apart_back v r q (apart_sides r q c b)) (apart_sides r p c a)
      (λ k. turns_past_back (p.x -ℤ v.x) (p.y -ℤ v.y) (q.x -ℤ v.x) (q.y -ℤ v.y) (r.x -ℤ v.x) (r.y -ℤ v.y) a b c l k)))

  module _ {A : Type 0} (far : A → Point) (starts ends : List A) (after : Each (λ e. After (far e)) starts) (before : Each (λ e. Before (far e)) ends)
      (starts_rise : Pairs (λ e f. ToLeft (far e) (far f)) starts) (ends_rise : Pairs (λ e f. ToLeft (far e) (far f)) ends) where
    pub apart_round : Pairs (λ e f. Apart v (far e) (far f)) (starts ++ ends)
    apart_round =
        pairs_append (λ e f. Apart v (far e) (far f)) starts ends
        (pairs_weaker (λ e f. ToLeft (far e) (far f)) (λ e f. Apart v (far e) (far f)) (λ e f. apart_left (far e) (far f)) starts starts_rise)
        (pairs_weaker (λ e f. ToLeft (far e) (far f)) (λ e f. Apart v (far e) (far f)) (λ e f. apart_left (far e) (far f)) ends ends_rise)
        (each_weaker (λ e. After (far e)) (λ e. Each (λ f. Apart v (far e) (far f)) ends) (λ e a. each_weaker (λ f. Before (far f)) (λ f. Apart v (far e) (far f)) (λ f b. apart_sides (far e) (far f) a b) ends before) starts after)

    pub turns_round : Triples (λ e f g. Turns false v (far e) (far f) (far g)) (starts ++ ends)
    turns_round =
        triples_append (λ e f g. Turns false v (far e) (far f) (far g)) starts ends
        (triples_from_pairs (λ e f. ToLeft (far e) (far f)) (λ e f g. Turns false v (far e) (far f) (far g)) (λ e f g l m n. one_side (far e) (far f) (far g) l m n) starts starts_rise)
        (triples_from_pairs (λ e f. ToLeft (far e) (far f)) (λ e f g. Turns false v (far e) (far f) (far g)) (λ e f g l m n. one_side (far e) (far f) (far g) l m n) ends ends_rise)
        (pairs_weaker (λ e f. After (far e) × After (far f) × ToLeft (far e) (far f)) (λ e f. Each (λ g. Turns false v (far e) (far f) (far g)) ends)
        (λ e f h. each_weaker (λ g. Before (far g)) (λ g. Turns false v (far e) (far f) (far g)) (λ g b. two_after (far e) (far f) (far g) h.0 h.1 b h.2) ends before) starts
        (pairs_with (λ e. After (far e)) (λ e f. ToLeft (far e) (far f)) starts after starts_rise))
        (each_weaker (λ e. After (far e)) (λ e. Pairs (λ f g. Turns false v (far e) (far f) (far g)) ends)
        (λ e a. pairs_weaker (λ f g. Before (far f) × Before (far g) × ToLeft (far f) (far g)) (λ f g. Turns false v (far e) (far f) (far g)) (λ f g h. two_before (far f) (far g) (far e) h.0 h.1 a h.2) ends
        (pairs_with (λ f. Before (far f)) (λ f g. ToLeft (far f) (far g)) ends before ends_rise)) starts after)
