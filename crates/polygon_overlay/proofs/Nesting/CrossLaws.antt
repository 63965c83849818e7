-- Where two points lie on one side of a pass, its two points lie on one side of theirs.
use Rattle.std.proofs.Common.{◌≡◌, ◌⊎◌, inl, inr, ℕ, zero, suc, ◌<◌, Bool, true, false, List, [], ◌∷◌, length, get_or, refl, sym, ap, ◌∙◌, subst, arith}
use Rattle.std.proofs.lemmas.List.{get_or_default}
use Rattle.plane_base.specs.Plane.{Point}
use Rattle.contour_walk.proofs.Facts.Walks.Turns.{not_apart, Turns, turns_on, turns_otherwise, never_both_ways, Has}
use Rattle.contour_walk.proofs.Facts.Walks.Rings.{Each, Pairs, Triples}
use Rattle.contour_walk.proofs.Walks.Members.{contains_from_has}
use Rattle.polygon_overlay.proofs.Nesting.SectorLaws.{is_between, between_is, not_between, first_not_between, second_not_between}

-- ---- three places of a round

abbrev Round : ℕ → ℕ → ℕ → Type 0
Round i j k = ((i < j) × (j < k)) ⊎ (((j < k) × (k < i)) ⊎ ((k < i) × (i < j)))

four_in : (a b p q : ℕ) → Round a b p → Round a b q → Round p a q → Round p b q
four_in a b p q (inl h) (inl k) (inl m) = absurd (omega (arith, h.0, h.1, k.0, k.1, m.0, m.1))
four_in a b p q (inl h) (inl k) (inr (inl m)) = inr (inl (omega (arith, h.0, h.1, k.0, k.1, m.0, m.1), omega (arith, h.0, h.1, k.0, k.1, m.0, m.1)))
four_in a b p q (inl h) (inl k) (inr (inr m)) = absurd (omega (arith, h.0, h.1, k.0, k.1, m.0, m.1))
four_in a b p q (inl h) (inr (inl k)) (inl m) = absurd (omega (arith, h.0, h.1, k.0, k.1, m.0, m.1))
four_in a b p q (inl h) (inr (inl k)) (inr (inl m)) = absurd (omega (arith, h.0, h.1, k.0, k.1, m.0, m.1))
four_in a b p q (inl h) (inr (inl k)) (inr (inr m)) = absurd (omega (arith, h.0, h.1, k.0, k.1, m.0, m.1))
four_in a b p q (inl h) (inr (inr k)) (inl m) = absurd (omega (arith, h.0, h.1, k.0, k.1, m.0, m.1))
four_in a b p q (inl h) (inr (inr k)) (inr (inl m)) = absurd (omega (arith, h.0, h.1, k.0, k.1, m.0, m.1))
four_in a b p q (inl h) (inr (inr k)) (inr (inr m)) = absurd (omega (arith, h.0, h.1, k.0, k.1, m.0, m.1))
four_in a b p q (inr (inl h)) (inl k) (inl m) = absurd (omega (arith, h.0, h.1, k.0, k.1, m.0, m.1))
four_in a b p q (inr (inl h)) (inl k) (inr (inl m)) = absurd (omega (arith, h.0, h.1, k.0, k.1, m.0, m.1))
four_in a b p q (inr (inl h)) (inl k) (inr (inr m)) = absurd (omega (arith, h.0, h.1, k.0, k.1, m.0, m.1))
four_in a b p q (inr (inl h)) (inr (inl k)) (inl m) = absurd (omega (arith, h.0, h.1, k.0, k.1, m.0, m.1))
four_in a b p q (inr (inl h)) (inr (inl k)) (inr (inl m)) = absurd (omega (arith, h.0, h.1, k.0, k.1, m.0, m.1))
four_in a b p q (inr (inl h)) (inr (inl k)) (inr (inr m)) = inr (inl (omega (arith, h.0, h.1, k.0, k.1, m.0, m.1), omega (arith, h.0, h.1, k.0, k.1, m.0, m.1)))
four_in a b p q (inr (inl h)) (inr (inr k)) (inl m) = absurd (omega (arith, h.0, h.1, k.0, k.1, m.0, m.1))
four_in a b p q (inr (inl h)) (inr (inr k)) (inr (inl m)) = absurd (omega (arith, h.0, h.1, k.0, k.1, m.0, m.1))
four_in a b p q (inr (inl h)) (inr (inr k)) (inr (inr m)) = absurd (omega (arith, h.0, h.1, k.0, k.1, m.0, m.1))
four_in a b p q (inr (inr h)) (inl k) (inl m) = inl (omega (arith, h.0, h.1, k.0, k.1, m.0, m.1), omega (arith, h.0, h.1, k.0, k.1, m.0, m.1))
four_in a b p q (inr (inr h)) (inl k) (inr (inl m)) = absurd (omega (arith, h.0, h.1, k.0, k.1, m.0, m.1))
four_in a b p q (inr (inr h)) (inl k) (inr (inr m)) = absurd (omega (arith, h.0, h.1, k.0, k.1, m.0, m.1))
four_in a b p q (inr (inr h)) (inr (inl k)) (inl m) = absurd (omega (arith, h.0, h.1, k.0, k.1, m.0, m.1))
four_in a b p q (inr (inr h)) (inr (inl k)) (inr (inl m)) = absurd (omega (arith, h.0, h.1, k.0, k.1, m.0, m.1))
four_in a b p q (inr (inr h)) (inr (inl k)) (inr (inr m)) = absurd (omega (arith, h.0, h.1, k.0, k.1, m.0, m.1))
four_in a b p q (inr (inr h)) (inr (inr k)) (inl m) = absurd (omega (arith, h.0, h.1, k.0, k.1, m.0, m.1))
four_in a b p q (inr (inr h)) (inr (inr k)) (inr (inl m)) = absurd (omega (arith, h.0, h.1, k.0, k.1, m.0, m.1))
four_in a b p q (inr (inr h)) (inr (inr k)) (inr (inr m)) = inr (inr (omega (arith, h.0, h.1, k.0, k.1, m.0, m.1), omega (arith, h.0, h.1, k.0, k.1, m.0, m.1)))

four_out : (a b p q : ℕ) → Round a b p → Round a b q → Round p q a → Round p q b
four_out a b p q (inl h) (inl k) (inl m) = absurd (omega (arith, h.0, h.1, k.0, k.1, m.0, m.1))
four_out a b p q (inl h) (inl k) (inr (inl m)) = absurd (omega (arith, h.0, h.1, k.0, k.1, m.0, m.1))
four_out a b p q (inl h) (inl k) (inr (inr m)) = inr (inr (omega (arith, h.0, h.1, k.0, k.1, m.0, m.1), omega (arith, h.0, h.1, k.0, k.1, m.0, m.1)))
four_out a b p q (inl h) (inr (inl k)) (inl m) = absurd (omega (arith, h.0, h.1, k.0, k.1, m.0, m.1))
four_out a b p q (inl h) (inr (inl k)) (inr (inl m)) = absurd (omega (arith, h.0, h.1, k.0, k.1, m.0, m.1))
four_out a b p q (inl h) (inr (inl k)) (inr (inr m)) = absurd (omega (arith, h.0, h.1, k.0, k.1, m.0, m.1))
four_out a b p q (inl h) (inr (inr k)) (inl m) = absurd (omega (arith, h.0, h.1, k.0, k.1, m.0, m.1))
four_out a b p q (inl h) (inr (inr k)) (inr (inl m)) = inr (inl (omega (arith, h.0, h.1, k.0, k.1, m.0, m.1), omega (arith, h.0, h.1, k.0, k.1, m.0, m.1)))
four_out a b p q (inl h) (inr (inr k)) (inr (inr m)) = absurd (omega (arith, h.0, h.1, k.0, k.1, m.0, m.1))
four_out a b p q (inr (inl h)) (inl k) (inl m) = absurd (omega (arith, h.0, h.1, k.0, k.1, m.0, m.1))
four_out a b p q (inr (inl h)) (inl k) (inr (inl m)) = absurd (omega (arith, h.0, h.1, k.0, k.1, m.0, m.1))
four_out a b p q (inr (inl h)) (inl k) (inr (inr m)) = absurd (omega (arith, h.0, h.1, k.0, k.1, m.0, m.1))
four_out a b p q (inr (inl h)) (inr (inl k)) (inl m) = inr (inr (omega (arith, h.0, h.1, k.0, k.1, m.0, m.1), omega (arith, h.0, h.1, k.0, k.1, m.0, m.1)))
four_out a b p q (inr (inl h)) (inr (inl k)) (inr (inl m)) = absurd (omega (arith, h.0, h.1, k.0, k.1, m.0, m.1))
four_out a b p q (inr (inl h)) (inr (inl k)) (inr (inr m)) = absurd (omega (arith, h.0, h.1, k.0, k.1, m.0, m.1))
four_out a b p q (inr (inl h)) (inr (inr k)) (inl m) = absurd (omega (arith, h.0, h.1, k.0, k.1, m.0, m.1))
four_out a b p q (inr (inl h)) (inr (inr k)) (inr (inl m)) = absurd (omega (arith, h.0, h.1, k.0, k.1, m.0, m.1))
four_out a b p q (inr (inl h)) (inr (inr k)) (inr (inr m)) = absurd (omega (arith, h.0, h.1, k.0, k.1, m.0, m.1))
four_out a b p q (inr (inr h)) (inl k) (inl m) = absurd (omega (arith, h.0, h.1, k.0, k.1, m.0, m.1))
four_out a b p q (inr (inr h)) (inl k) (inr (inl m)) = absurd (omega (arith, h.0, h.1, k.0, k.1, m.0, m.1))
four_out a b p q (inr (inr h)) (inl k) (inr (inr m)) = absurd (omega (arith, h.0, h.1, k.0, k.1, m.0, m.1))
four_out a b p q (inr (inr h)) (inr (inl k)) (inl m) = absurd (omega (arith, h.0, h.1, k.0, k.1, m.0, m.1))
four_out a b p q (inr (inr h)) (inr (inl k)) (inr (inl m)) = absurd (omega (arith, h.0, h.1, k.0, k.1, m.0, m.1))
four_out a b p q (inr (inr h)) (inr (inl k)) (inr (inr m)) = absurd (omega (arith, h.0, h.1, k.0, k.1, m.0, m.1))
four_out a b p q (inr (inr h)) (inr (inr k)) (inl m) = inl (omega (arith, h.0, h.1, k.0, k.1, m.0, m.1), omega (arith, h.0, h.1, k.0, k.1, m.0, m.1))
four_out a b p q (inr (inr h)) (inr (inr k)) (inr (inl m)) = absurd (omega (arith, h.0, h.1, k.0, k.1, m.0, m.1))
four_out a b p q (inr (inr h)) (inr (inr k)) (inr (inr m)) = absurd (omega (arith, h.0, h.1, k.0, k.1, m.0, m.1))

order_of : (i j : ℕ) → (i ≡ j) ⊎ ((i < j) ⊎ (j < i))
order_of zero zero = inl refl
order_of zero (suc j) = inr (inl (omega arith))
order_of (suc i) zero = inr (inr (omega arith))
order_of (suc i) (suc j) = by (order_of i j)
  where
    by : (i ≡ j) ⊎ ((i < j) ⊎ (j < i)) → (suc i ≡ suc j) ⊎ ((suc i < suc j) ⊎ (suc j < suc i))
    by (inl e) = inl (ap suc e)
    by (inr (inl l)) = inr (inl (omega (arith, l)))
    by (inr (inr l)) = inr (inr (omega (arith, l)))

-- one way round or the other
either_round : (i j k : ℕ) → (i ≡ j → ⊥) → (j ≡ k → ⊥) → (i ≡ k → ⊥) → Round i j k ⊎ Round i k j
either_round i j k d e f = by (order_of i j) (order_of j k) (order_of i k)
  where
    by : (i ≡ j) ⊎ ((i < j) ⊎ (j < i)) → (j ≡ k) ⊎ ((j < k) ⊎ (k < j)) → (i ≡ k) ⊎ ((i < k) ⊎ (k < i)) → Round i j k ⊎ Round i k j
    by (inl g) y z = absurd (d g)
    by (inr x) (inl g) z = absurd (e g)
    by (inr x) (inr y) (inl g) = absurd (f g)
    by (inr (inl l)) (inr (inl m)) (inr n) = inl (inl (l, m))
    by (inr (inl l)) (inr (inr m)) (inr (inl n)) = inr (inl (n, m))
    by (inr (inl l)) (inr (inr m)) (inr (inr n)) = inl (inr (inr (n, l)))
    by (inr (inr l)) (inr (inl m)) (inr (inl n)) = inr (inr (inr (l, n)))
    by (inr (inr l)) (inr (inl m)) (inr (inr n)) = inl (inr (inl (m, n)))
    by (inr (inr l)) (inr (inr m)) (inr n) = inr (inr (inl (m, l)))

-- ---- places of a list

module _ {A : Type 0} where
  each_at : (P : A → Type 0) (xs : List A) (i : ℕ) (d : A) → Each P xs → i < length xs → P (get_or xs i d)
  each_at P [] i d h l = absurd (omega (arith, l))
  each_at P (x ∷ xs) zero d h l = h.0
  each_at P (x ∷ xs) (suc i) d h l = each_at P xs i d h.1 (omega (arith, l))

  pairs_at : (R : A → A → Type 0) (xs : List A) (i j : ℕ) (d : A) → Pairs R xs → i < j → j < length xs → R (get_or xs i d) (get_or xs j d)
  pairs_at R [] i j d h l m = absurd (omega (arith, m))
  pairs_at R (x ∷ xs) i zero d h l m = absurd (omega (arith, l))
  pairs_at R (x ∷ xs) zero (suc j) d h l m = each_at (R x) xs j d h.0 (omega (arith, m))
  pairs_at R (x ∷ xs) (suc i) (suc j) d h l m = pairs_at R xs i j d h.1 (omega (arith, l)) (omega (arith, m))

  triples_at : (R : A → A → A → Type 0) (xs : List A) (i j k : ℕ) (d : A) → Triples R xs → i < j → j < k → k < length xs → R (get_or xs i d) (get_or xs j d) (get_or xs k d)
  triples_at R [] i j k d h l m n = absurd (omega (arith, n))
  triples_at R (x ∷ xs) i j zero d h l m n = absurd (omega (arith, m))
  triples_at R (x ∷ xs) i zero (suc k) d h l m n = absurd (omega (arith, l))
  triples_at R (x ∷ xs) zero (suc j) (suc k) d h l m n = pairs_at (R x) xs j k d h.0 (omega (arith, m)) (omega (arith, n))
  triples_at R (x ∷ xs) (suc i) (suc j) (suc k) d h l m n = triples_at R xs i j k d h.1 (omega (arith, l)) (omega (arith, m)) (omega (arith, n))

-- ---- spokes of a ring

module _ {A : Type 0} (far : A → Point) (v : Point) (xs : List A) (d : A) (order : Triples (λ x y z. Turns false v (far x) (far y) (far z)) xs) where
  abbrev at : ℕ → Point
  at i = far (get_or xs i d)

  abbrev IsTurn : ℕ → ℕ → ℕ → Type 0
  IsTurn i j k = Turns false v (at i) (at j) (at k)

  turns_of_round : (i j k : ℕ) → i < length xs → j < length xs → k < length xs → Round i j k → IsTurn i j k
  turns_of_round i j k l m n (inl h) = triples_at (λ x y z. Turns false v (far x) (far y) (far z)) xs i j k d order h.0 h.1 n
  turns_of_round i j k l m n (inr (inl h)) =
      turns_on false v (at k) (at i) (at j) (turns_on false v (at j) (at k) (at i) (triples_at (λ x y z. Turns false v (far x) (far y) (far z)) xs j k i d order h.0 h.1 l))
  turns_of_round i j k l m n (inr (inr h)) =
      turns_on false v (at k) (at i) (at j) (triples_at (λ x y z. Turns false v (far x) (far y) (far z)) xs k i j d order h.0 h.1 m)

  round_of_turns : (i j k : ℕ) → i < length xs → j < length xs → k < length xs → IsTurn i j k → Round i j k
  round_of_turns i j k l m n t =
      by (either_round i j k (λ e. not_apart v (at i) (at j) t.first (ap at e)) (λ e. not_apart v (at j) (at k) t.second (ap at e)) (λ e. not_apart v (at k) (at i) t.third (sym (ap at e))))
    where
      by : Round i j k ⊎ Round i k j → Round i j k
      by (inl r) = r
      by (inr r) = absurd (never_both_ways false v (at i) (at j) (at k) t (turns_of_round i k j l n m r))

  -- a pass from a to b has both p and q on one side, so a and b lie on one side of p and q
  same_side : (a b p q : ℕ) → a < length xs → b < length xs → p < length xs → q < length xs → (p ≡ q → ⊥) → IsTurn a b p → IsTurn a b q
      → is_between v (at p) (at q) (at a) ≡ is_between v (at p) (at q) (at b)
  same_side a b p q la lb lp lq differ t u =
      by (either_round p a q (λ e. not_apart v (at p) (at a) t.third (ap at e)) (λ e. not_apart v (at q) (at a) u.third (sym (ap at e))) differ)
    where
      r : Round a b p
      r = round_of_turns a b p la lb lp t

      s : Round a b q
      s = round_of_turns a b q la lb lq u

      by : Round p a q ⊎ Round p q a → is_between v (at p) (at q) (at a) ≡ is_between v (at p) (at q) (at b)
      by (inl k) =
          between_is v (at p) (at q) (at a) (turns_of_round p a q lp la lq k)
          ∙ sym (between_is v (at p) (at q) (at b) (turns_of_round p b q lp lb lq (four_in a b p q r s k)))
      by (inr k) =
          not_between v (at p) (at q) (at a) (turns_of_round p q a lp lq la k)
          ∙ sym (not_between v (at p) (at q) (at b) (turns_of_round p q b lp lq lb (four_out a b p q r s k)))

  -- where an element stands
  place_of : (x : A) → Has xs x → (i : ℕ) × (i < length xs) × (get_or xs i d ≡ x)
  place_of x h = let k = contains_from_has xs x h in (k.0, k.1, get_or_default xs k.0 d x k.1 ∙ k.2)

  earlier_side : (x y p q : A) → Has xs x → Has xs y → Has xs p → Has xs q → (p ≡ q → ⊥) → Turns false v (far x) (far y) (far p) → Turns false v (far x) (far y) (far q)
      → is_between v (far p) (far q) (far x) ≡ is_between v (far p) (far q) (far y)
  earlier_side x y p q hx hy hp hq differ =
      let a = place_of x hx in
      let b = place_of y hy in
      let i = place_of p hp in
      let j = place_of q hq in
      subst (λ x. Turns false v (far x) (far y) (far p) → Turns false v (far x) (far y) (far q) → is_between v (far p) (far q) (far x) ≡ is_between v (far p) (far q) (far y)) a.2
      (subst (λ y. Turns false v (at a.0) (far y) (far p) → Turns false v (at a.0) (far y) (far q) → is_between v (far p) (far q) (at a.0) ≡ is_between v (far p) (far q) (far y)) b.2
      (subst (λ p. Turns false v (at a.0) (at b.0) (far p) → Turns false v (at a.0) (at b.0) (far q) → is_between v (far p) (far q) (at a.0) ≡ is_between v (far p) (far q) (at b.0)) i.2
      (subst (λ q. Turns false v (at a.0) (at b.0) (at i.0) → Turns false v (at a.0) (at b.0) (far q) → is_between v (at i.0) (far q) (at a.0) ≡ is_between v (at i.0) (far q) (at b.0)) j.2
      (same_side a.0 b.0 i.0 j.0 a.1 b.1 i.1 j.1 (λ e. differ (sym i.2 ∙ (ap (λ k. get_or xs k d) e ∙ j.2)))))))

later_side : (c : Bool) (v p q x y : Point) → Turns c v p q x → Turns c v p q y → is_between v p q x ≡ is_between v p q y
later_side true v p q x y t u = between_is v p q x (turns_otherwise true v p q x t) ∙ sym (between_is v p q y (turns_otherwise true v p q y u))
later_side false v p q x y t u = not_between v p q x t ∙ sym (not_between v p q y u)

-- the pass from a to b at v is the one from p to q, or has both on one side, or lies on one side of it
pub data AreAside (v p q a b : Point) : Type 0 where
  itself : a ≡ p → b ≡ q → AreAside v p q a b
  earlier : (c : Bool) → Turns c v a b p → Turns c v a b q → AreAside v p q a b
  later : (c : Bool) → Turns c v p q a → Turns c v p q b → AreAside v p q a b

pub aside_alike : {A : Type 0} (far : A → Point) (v : Point) (xs : List A) → Triples (λ x y z. Turns false v (far x) (far y) (far z)) xs
    → (x y p q : A) → Has xs x → Has xs y → Has xs p → Has xs q → (p ≡ q → ⊥) → AreAside v (far p) (far q) (far x) (far y)
    → is_between v (far p) (far q) (far x) ≡ is_between v (far p) (far q) (far y)
aside_alike far v xs order x y p q hx hy hp hq differ (itself e f) =
    ap (is_between v (far p) (far q)) e ∙ (first_not_between v (far p) (far q) ∙ sym (ap (is_between v (far p) (far q)) f ∙ second_not_between v (far p) (far q)))
aside_alike far v xs order x y p q hx hy hp hq differ (later c t u) = later_side c v (far p) (far q) (far x) (far y) t u
aside_alike far v xs order x y p q hx hy hp hq differ (earlier false t u) = earlier_side far v xs x order x y p q hx hy hp hq differ t u
aside_alike far v xs order x y p q hx hy hp hq differ (earlier true t u) =
    sym (earlier_side far v xs x order y x p q hy hx hp hq differ (turned_round p t) (turned_round q u))
  where
    turned_round : (z : _) → Turns true v (far x) (far y) (far z) → Turns false v (far y) (far x) (far z)
    turned_round z h =
        turns_on false v (far z) (far y) (far x) (turns_on false v (far x) (far z) (far y) (turns_otherwise true v (far x) (far y) (far z) h))
