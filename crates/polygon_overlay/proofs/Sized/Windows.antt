-- What winds in a row is what began less what ended: so a window tells what winds after both are moved.
use Rattle.std.proofs.Common.{◌≡◌, ◌⊎◌, inl, inr, ℕ, zero, suc, ◌+◌, ◌*◌, ◌≤◌, ◌<◌, [], ◌∷◌, ℤ, pos, negsuc, neg_ℤ, ◌+ℤ◌, ◌-ℤ◌, ◌*ℤ◌, ◌≤ℤ◌, ◌<ℤ◌, refl, sym, ap, ◌∙◌, subst, arith}
use Rattle.std.proofs.lemmas.Int.{ints}
use Rattle.plane_base.specs.Plane.{RationalPoint, IsRational}
use Rattle.plane_base.proofs.Facts.Numbers.Polynomials.{var, plus, minus, times, opposite, by_ring}
use Rattle.plane_base.proofs.Facts.Numbers.Products.{product_of_sum, product_not_negative, product_not_positive, product_monotone}
use Rattle.polygon_overlay.specs.Sizing.{LiesInRow, IsSizedAcross}
use Rattle.polygon_overlay.proofs.Sized.Terms.{at, over, HasPlaces, WindowsTell}

-- ---- two rising counts

-- how far a number is from one that is not above it
way : (k m : ℤ) → k ≤ℤ m → (n : ℕ) × (m ≡ k +ℤ pos n)
way k m l = by (m -ℤ k) refl
  where
    by : (d : ℤ) → m -ℤ k ≡ d → (n : ℕ) × (m ≡ k +ℤ pos n)
    by (pos n) e = (n, omega (arith, ints))
    by (negsuc n) e = absurd (omega (arith, ints))

further : (k : ℤ) (n : ℕ) → k +ℤ pos (suc n) ≡ (k +ℤ pos n) +ℤ pos 1
further k n = omega (arith, ints)

module _ (f : ℤ → ℤ) (step : (k : ℤ) → f k ≤ℤ f (k +ℤ pos 1)) where
  rises_by : (n : ℕ) (k : ℤ) → f k ≤ℤ f (k +ℤ pos n)
  rises_by zero k = subst (λ m. f k ≤ℤ f m) (same k) (level (f k))
    where
      same : (k : ℤ) → k ≡ k +ℤ pos 0
      same k = omega (arith, ints)

      level : (x : ℤ) → x ≤ℤ x
      level x = omega (arith, ints)
  rises_by (suc n) k =
      subst (λ m. f k ≤ℤ f m) (sym (further k n)) (then (f k) (f (k +ℤ pos n)) (f ((k +ℤ pos n) +ℤ pos 1)) (rises_by n k) (step (k +ℤ pos n)))
    where
      then : (x y z : ℤ) → x ≤ℤ y → y ≤ℤ z → x ≤ℤ z
      then x y z l m = omega (arith, ints)

  rises : (k m : ℤ) → k ≤ℤ m → f k ≤ℤ f m
  rises k m l = let w = way k m l in subst (λ z. f k ≤ℤ f z) (sym w.1) (rises_by w.0 k)

module _ (begun ended : ℤ → ℤ) (begun_rises : (k : ℤ) → begun k ≤ℤ begun (k +ℤ pos 1)) (ended_rises : (k : ℤ) → ended k ≤ℤ ended (k +ℤ pos 1))
    (apart : (k : ℤ) → ((begun (k +ℤ pos 1) -ℤ begun k) +ℤ (ended (k +ℤ pos 1) -ℤ ended k)) ≤ℤ pos 1)
    (once : (k : ℤ) → (begun k -ℤ ended k ≡ pos 0) ⊎ (begun k -ℤ ended k ≡ pos 1)) where
  -- from a place to the next that winds as it, nothing begins or ends
  nothing_between : (k w : ℤ) → begun k -ℤ ended k ≡ w → begun (k +ℤ pos 1) -ℤ ended (k +ℤ pos 1) ≡ w → (begun (k +ℤ pos 1) ≡ begun k) × (ended (k +ℤ pos 1) ≡ ended k)
  nothing_between k w here next = both (begun k) (ended k) (begun (k +ℤ pos 1)) (ended (k +ℤ pos 1)) w (begun_rises k) (ended_rises k) (apart k) here next
    where
      both : (b e c f w : ℤ) → b ≤ℤ c → e ≤ℤ f → ((c -ℤ b) +ℤ (f -ℤ e)) ≤ℤ pos 1 → b -ℤ e ≡ w → c -ℤ f ≡ w → (c ≡ b) × (f ≡ e)
      both b e c f w l m few here next = (omega (arith, ints), omega (arith, ints))

  -- ---- grown

  some_grown : (k m l : ℤ) → k ≤ℤ m → m ≤ℤ l → begun m -ℤ ended m ≡ pos 1 → pos 0 <ℤ (begun l -ℤ ended k)
  some_grown k m l from to here = more (begun m) (ended m) (begun l) (ended k) (rises begun begun_rises m l to) (rises ended ended_rises k m from) here
    where
      more : (b e c f : ℤ) → b ≤ℤ c → f ≤ℤ e → b -ℤ e ≡ pos 1 → pos 0 <ℤ (c -ℤ f)
      more b e c f l m here = omega (arith, ints)

  -- one of the places from k on, or none, so that nothing winds at the last
  grown_by : (n : ℕ) (k : ℤ) → ((m : ℤ) × (k ≤ℤ m) × (m ≤ℤ (k +ℤ pos n)) × (begun m -ℤ ended m ≡ pos 1)) ⊎ ((begun (k +ℤ pos n) -ℤ ended k) ≤ℤ pos 0)
  grown_by zero k = by (once k)
    where
      same : (k : ℤ) → k ≡ k +ℤ pos 0
      same k = omega (arith, ints)

      level : (x : ℤ) → x ≤ℤ x
      level x = omega (arith, ints)

      none : (x : ℤ) → x ≡ pos 0 → x ≤ℤ pos 0
      none x e = omega (arith, ints)

      by : (begun k -ℤ ended k ≡ pos 0) ⊎ (begun k -ℤ ended k ≡ pos 1)
          → ((m : ℤ) × (k ≤ℤ m) × (m ≤ℤ (k +ℤ pos 0)) × (begun m -ℤ ended m ≡ pos 1)) ⊎ ((begun (k +ℤ pos 0) -ℤ ended k) ≤ℤ pos 0)
      by (inl e) = inr (subst (λ m. (begun m -ℤ ended k) ≤ℤ pos 0) (same k) (none (begun k -ℤ ended k) e))
      by (inr e) = inl (k, level k, omega (arith, ints), e)
  grown_by (suc n) k = by (grown_by n k) (once (k +ℤ pos n)) (once ((k +ℤ pos n) +ℤ pos 1))
    where
      last : ℤ
      last = k +ℤ pos n

      next : ℤ
      next = last +ℤ pos 1

      empty : (b e f : ℤ) → (b -ℤ f) ≤ℤ pos 0 → f ≤ℤ e → b -ℤ e ≡ pos 1 → ⊥
      empty b e f l m here = omega (arith, ints)

      by : ((m : ℤ) × (k ≤ℤ m) × (m ≤ℤ last) × (begun m -ℤ ended m ≡ pos 1)) ⊎ ((begun last -ℤ ended k) ≤ℤ pos 0)
          → (begun last -ℤ ended last ≡ pos 0) ⊎ (begun last -ℤ ended last ≡ pos 1) → (begun next -ℤ ended next ≡ pos 0) ⊎ (begun next -ℤ ended next ≡ pos 1)
          → ((m : ℤ) × (k ≤ℤ m) × (m ≤ℤ (k +ℤ pos (suc n))) × (begun m -ℤ ended m ≡ pos 1)) ⊎ ((begun (k +ℤ pos (suc n)) -ℤ ended k) ≤ℤ pos 0)
      by (inl (m, from, to, here)) e f = inl (m, from, omega (arith, ints, to), here)
      by (inr none) (inr e) f = absurd (empty (begun last) (ended last) (ended k) none (rises ended ended_rises k last (omega (arith, ints))) e)
      by (inr none) (inl e) (inr f) = inl (next, omega (arith, ints), omega (arith, ints), f)
      by (inr none) (inl e) (inl f) =
          inr (subst (λ m. (begun m -ℤ ended k) ≤ℤ pos 0) (sym (further k n)) (subst (λ b. (b -ℤ ended k) ≤ℤ pos 0) (sym (nothing_between last (pos 0) e f).0) none))

  -- ---- shrunk

  each_shrunk : (k m l : ℤ) → k ≤ℤ m → m ≤ℤ l → pos 0 <ℤ (begun k -ℤ ended l) → begun m -ℤ ended m ≡ pos 1
  each_shrunk k m l from to some =
      by (once m) (fewer (begun m) (ended m) (begun k) (ended l) (rises begun begun_rises k m from) (rises ended ended_rises m l to) some)
    where
      fewer : (b e c f : ℤ) → c ≤ℤ b → e ≤ℤ f → pos 0 <ℤ (c -ℤ f) → pos 0 <ℤ (b -ℤ e)
      fewer b e c f l m some = omega (arith, ints)

      clash : (x : ℤ) → x ≡ pos 0 → pos 0 <ℤ x → ⊥
      clash x e l = omega (arith, ints)

      by : (begun m -ℤ ended m ≡ pos 0) ⊎ (begun m -ℤ ended m ≡ pos 1) → pos 0 <ℤ (begun m -ℤ ended m) → begun m -ℤ ended m ≡ pos 1
      by (inl e) l = absurd (clash (begun m -ℤ ended m) e l)
      by (inr e) l = e

  shrunk_by : (n : ℕ) (k : ℤ) → ((m : ℤ) → k ≤ℤ m → m ≤ℤ (k +ℤ pos n) → begun m -ℤ ended m ≡ pos 1) → begun k -ℤ ended (k +ℤ pos n) ≡ pos 1
  shrunk_by zero k all = subst (λ m. begun k -ℤ ended m ≡ pos 1) (same k) (all k (omega (arith, ints)) (omega (arith, ints)))
    where
      same : (k : ℤ) → k ≡ k +ℤ pos 0
      same k = omega (arith, ints)
  shrunk_by (suc n) k all =
      subst (λ m. begun k -ℤ ended m ≡ pos 1) (sym (further k n))
      (subst (λ e. begun k -ℤ e ≡ pos 1)
      (sym (nothing_between (k +ℤ pos n) (pos 1) (all (k +ℤ pos n) (omega (arith, ints)) (omega (arith, ints))) (all ((k +ℤ pos n) +ℤ pos 1) (omega (arith, ints)) (omega (arith, ints)))).1)
      (shrunk_by n k (λ m from to. all m from (omega (arith, ints, to)))))

-- ---- windows

-- ends of windows over a greater denominator
less_over : (a b x r : ℤ) → a *ℤ (x -ℤ (b *ℤ r)) ≡ (a *ℤ x) -ℤ ((a *ℤ b) *ℤ r)
less_over a b x r =
    by_ring (a ∷ b ∷ x ∷ r ∷ []) (times (var 0) (minus (var 2) (times (var 1) (var 3)))) (minus (times (var 0) (var 2)) (times (times (var 0) (var 1)) (var 3))) refl

more_over : (a b x r : ℤ) → a *ℤ (x +ℤ (b *ℤ r)) ≡ (a *ℤ x) +ℤ ((a *ℤ b) *ℤ r)
more_over a b x r =
    by_ring (a ∷ b ∷ x ∷ r ∷ []) (times (var 0) (plus (var 2) (times (var 1) (var 3)))) (plus (times (var 0) (var 2)) (times (times (var 0) (var 1)) (var 3))) refl

less_negated : (b x r : ℤ) → x -ℤ (b *ℤ neg_ℤ r) ≡ x +ℤ (b *ℤ r)
less_negated b x r = by_ring (b ∷ x ∷ r ∷ []) (minus (var 1) (times (var 0) (opposite (var 2)))) (plus (var 1) (times (var 0) (var 2))) refl

more_negated : (b x r : ℤ) → x +ℤ (b *ℤ neg_ℤ r) ≡ x -ℤ (b *ℤ r)
more_negated b x r = by_ring (b ∷ x ∷ r ∷ []) (plus (var 1) (times (var 0) (opposite (var 2)))) (minus (var 1) (times (var 0) (var 2))) refl

-- the window's width
wide : (b x l r : ℤ) → pos 0 ≤ℤ b → pos 0 ≤ℤ (l +ℤ r) → (x -ℤ (b *ℤ r)) ≤ℤ (x +ℤ (b *ℤ l))
wide b x l r some h = by (b *ℤ l) (b *ℤ r) (subst (λ z. pos 0 ≤ℤ z) (product_of_sum b l r) (product_not_negative b (l +ℤ r) some h))
  where
    by : (m n : ℤ) → pos 0 ≤ℤ (m +ℤ n) → (x -ℤ n) ≤ℤ (x +ℤ m)
    by m n h = omega (arith, ints)

narrow : (b x l r : ℤ) → pos 0 ≤ℤ b → (l +ℤ r) <ℤ pos 0 → (x +ℤ (b *ℤ l)) ≤ℤ (x -ℤ (b *ℤ r))
narrow b x l r some h = by (b *ℤ l) (b *ℤ r) (subst (λ z. z ≤ℤ pos 0) (product_of_sum b l r) (product_not_positive b (l +ℤ r) some (weak (l +ℤ r) h)))
  where
    weak : (d : ℤ) → d <ℤ pos 0 → d ≤ℤ pos 0
    weak d h = omega (arith, ints)

    by : (m n : ℤ) → (m +ℤ n) ≤ℤ pos 0 → (x +ℤ m) ≤ℤ (x -ℤ n)
    by m n h = omega (arith, ints)

not_below : (q : ℕ) → pos 0 ≤ℤ pos q
not_below q = omega (arith, ints)

one_is_some : (x : ℤ) → x ≡ pos 1 → pos 0 <ℤ x
one_is_some x e = omega (arith, ints)

none_is_not : (x : ℤ) → pos 0 <ℤ x → x ≤ℤ pos 0 → ⊥
none_is_not x l m = omega (arith, ints)

module _ (wound moved : RationalPoint → ℤ) (left right : ℤ) (has : (p : RationalPoint) → IsRational p → HasPlaces wound moved left right p)
    (once : (p : RationalPoint) → IsRational p → (wound p ≡ pos 0) ⊎ (wound p ≡ pos 1))
    (wound_over : (m p : RationalPoint) → IsRational m → wound (over m p) ≡ wound p) (moved_over : (m p : RationalPoint) → IsRational m → moved (over m p) ≡ moved p) where
  once_at : (p : RationalPoint) (some : IsRational p) (k : ℤ)
      → ((has p some).begun k -ℤ (has p some).ended k ≡ pos 0) ⊎ ((has p some).begun k -ℤ (has p some).ended k ≡ pos 1)
  once_at p some k = subst (λ w. (w ≡ pos 0) ⊎ (w ≡ pos 1)) ((has p some).is k) (once (at k p) some)

  -- a point of the row, over the common denominator
  row_over : (p m : RationalPoint) → pos p.q *ℤ m.y ≡ pos m.q *ℤ p.y → over p m ≡ at (pos p.q *ℤ m.x) (over m p)
  row_over p m row = λ i. record { x = pos p.q *ℤ m.x; y = row i; q = commuted p.q m.q i }
    where
      commuted : (a b : ℕ) → a * b ≡ b * a
      commuted a b = omega arith

  rational_over : (m p : RationalPoint) → IsRational m → IsRational p → IsRational (over m p)
  rational_over m p h k = some m.q p.q h k
    where
      some : (a b : ℕ) → 0 < a → 0 < b → 0 < (a * b)
      some zero b h k = absurd (omega (arith, h))
      some (suc a) b h k = omega (arith, k)

  module _ (p : RationalPoint) (some : IsRational p) where
    seen : (m : RationalPoint) → IsRational m → pos p.q *ℤ m.y ≡ pos m.q *ℤ p.y → (rational : IsRational (over m p))
        → wound m ≡ (has (over m p) rational).begun (pos p.q *ℤ m.x) -ℤ (has (over m p) rational).ended (pos p.q *ℤ m.x)
    seen m some_m row rational = sym (wound_over p m some) ∙ (ap wound (row_over p m row) ∙ (has (over m p) rational).is (pos p.q *ℤ m.x))

    in_row : (back on k : ℤ) → (p.x -ℤ (pos p.q *ℤ back)) ≤ℤ k → k ≤ℤ (p.x +ℤ (pos p.q *ℤ on)) → LiesInRow back on p (at k p)
    in_row back on k from to = record {
      rational = some;
      row = refl;
      from = product_monotone (pos p.q) (p.x -ℤ (pos p.q *ℤ back)) k (not_below p.q) from;
      to = product_monotone (pos p.q) k (p.x +ℤ (pos p.q *ℤ on)) (not_below p.q) to;
    }

    -- ---- told by the window

    filled_grown : pos 0 ≤ℤ (left +ℤ right) → (m : RationalPoint) → LiesInRow right left p m → wound m ≡ pos 1 → pos 0 <ℤ moved p
    filled_grown wide_enough m row here =
        let rational = rational_over m p row.rational some in
        let places = has (over m p) rational in
        subst (λ w. pos 0 <ℤ w) (sym places.after ∙ moved_over m p row.rational)
        (some_grown places.begun places.ended places.begun_rises places.ended_rises places.apart (once_at (over m p) rational)
        ((over m p).x -ℤ (pos (over m p).q *ℤ right)) (pos p.q *ℤ m.x) ((over m p).x +ℤ (pos (over m p).q *ℤ left))
        (subst (λ z. z ≤ℤ (pos p.q *ℤ m.x)) (less_over (pos m.q) (pos p.q) p.x right) row.from)
        (subst (λ z. (pos p.q *ℤ m.x) ≤ℤ z) (more_over (pos m.q) (pos p.q) p.x left) row.to)
        (sym (seen m row.rational row.row rational) ∙ here))

    filled_shrunk : (left +ℤ right) <ℤ pos 0 → ((m : RationalPoint) → LiesInRow (neg_ℤ left) (neg_ℤ right) p m → wound m ≡ pos 1) → pos 0 <ℤ moved p
    filled_shrunk short all =
        let places = has p some in
        let from = p.x +ℤ (pos p.q *ℤ left) in
        let to = p.x -ℤ (pos p.q *ℤ right) in
        let w = way from to (narrow (pos p.q) p.x left right (not_below p.q) short) in
        one_is_some (moved p)
        (places.after
        ∙ (ap (λ k. places.begun from -ℤ places.ended k) w.1
        ∙ shrunk_by places.begun places.ended places.begun_rises places.ended_rises places.apart (once_at p some) w.0 from
        (λ k after before. sym (places.is k) ∙ all (at k p)
        (in_row (neg_ℤ left) (neg_ℤ right) k (subst (λ z. z ≤ℤ k) (sym (less_negated (pos p.q) p.x left)) after)
        (subst (λ z. k ≤ℤ z) (sym w.1 ∙ sym (more_negated (pos p.q) p.x right)) before)))))

    -- ---- and tell it

    found_grown : pos 0 <ℤ moved p → pos 0 ≤ℤ (left +ℤ right) → (m : RationalPoint) × LiesInRow right left p m × (wound m ≡ pos 1)
    found_grown inside wide_enough =
        by (grown_by places.begun places.ended places.begun_rises places.ended_rises places.apart (once_at p some) w.0 from)
      where
        places : HasPlaces wound moved left right p
        places = has p some

        from : ℤ
        from = p.x -ℤ (pos p.q *ℤ right)

        to : ℤ
        to = p.x +ℤ (pos p.q *ℤ left)

        w : (n : ℕ) × (to ≡ from +ℤ pos n)
        w = way from to (wide (pos p.q) p.x left right (not_below p.q) wide_enough)

        by : ((m : ℤ) × (from ≤ℤ m) × (m ≤ℤ (from +ℤ pos w.0)) × (places.begun m -ℤ places.ended m ≡ pos 1)) ⊎ ((places.begun (from +ℤ pos w.0) -ℤ places.ended from) ≤ℤ pos 0)
            → (m : RationalPoint) × LiesInRow right left p m × (wound m ≡ pos 1)
        by (inl (m, after, before, here)) = (at m p, in_row right left m after (subst (λ z. m ≤ℤ z) (sym w.1) before), places.is m ∙ here)
        by (inr none) =
            absurd (none_is_not (moved p) inside (subst (λ z. z ≤ℤ pos 0) (sym (places.after ∙ ap (λ k. places.begun k -ℤ places.ended from) w.1)) none))

    found_shrunk : pos 0 <ℤ moved p → (left +ℤ right) <ℤ pos 0 → (m : RationalPoint) → LiesInRow (neg_ℤ left) (neg_ℤ right) p m → wound m ≡ pos 1
    found_shrunk inside short m row =
        let rational = rational_over m p row.rational some in
        let places = has (over m p) rational in
        seen m row.rational row.row rational
        ∙ each_shrunk places.begun places.ended places.begun_rises places.ended_rises places.apart (once_at (over m p) rational)
        ((over m p).x +ℤ (pos (over m p).q *ℤ left)) (pos p.q *ℤ m.x) ((over m p).x -ℤ (pos (over m p).q *ℤ right))
        (subst (λ z. z ≤ℤ (pos p.q *ℤ m.x)) (ap (λ z. pos m.q *ℤ z) (less_negated (pos p.q) p.x left) ∙ more_over (pos m.q) (pos p.q) p.x left) row.from)
        (subst (λ z. (pos p.q *ℤ m.x) ≤ℤ z) (ap (λ z. pos m.q *ℤ z) (more_negated (pos p.q) p.x right) ∙ less_over (pos m.q) (pos p.q) p.x right) row.to)
        (subst (λ w. pos 0 <ℤ w) (sym (moved_over m p row.rational) ∙ places.after) inside)

    tells : IsSizedAcross left right (λ m. wound m ≡ pos 1) p → pos 0 <ℤ moved p
    tells sized = by (left +ℤ right) refl
      where
        by : (d : ℤ) → left +ℤ right ≡ d → pos 0 <ℤ moved p
        by (pos n) e = let h : pos 0 ≤ℤ (left +ℤ right) = omega (arith, ints, e) in let (m, row, here) = sized.grown h in filled_grown h m row here
        by (negsuc n) e = let h : (left +ℤ right) <ℤ pos 0 = omega (arith, ints, e) in filled_shrunk h (sized.shrunk h)

pub windows_tell : WindowsTell
windows_tell wound moved left right has once wound_over moved_over p some = (
  tells wound moved left right has once wound_over moved_over p some,
  λ inside. record {
    grown = found_grown wound moved left right has once wound_over moved_over p some inside;
    shrunk = found_shrunk wound moved left right has once wound_over moved_over p some inside;
  },
)
