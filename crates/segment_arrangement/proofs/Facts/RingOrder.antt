-- Each point of an arrangement has a ring.
use Rattle.std.proofs.Common.{◌≡◌, ◌≢◌, Bool, true, false, cond, List, [], ◌∷◌, filter, All, AllPairs, Contains, IsPermutation, ◌⊎◌, inl, inr, ℤ, pos, ◌+ℤ◌, ◌-ℤ◌, ◌*ℤ◌, neg_ℤ, ◌≤ℤ◌, ◌<ℤ◌, get_or, refl, sym, ap, ◌∙◌, arith}
use Rattle.std.specs.declared.cmp.Ordering.{Ordering}
use Rattle.std.specs.declared.cmp.Ordering.TheVariants.{Less, Equal, Greater}
use Rattle.std.specs.Ordering.{int_cmp, ordering_reverse, MatchOrdering}
use Rattle.std.specs.Cmp.{int_ranks}
use Rattle.std.proofs.lemmas.Int.{ints}
use Rattle.std.proofs.lemmas.Bool.{false≢true}
use Rattle.std.proofs.Math.IntN.{zero-*ℤ}
use Rattle.std.proofs.lemmas.List.Elements.{All-nil, All-cons, All-head, All-tail, All-contains, All-contains_itself, All-filter, filter_passes}
use Rattle.std.proofs.lemmas.List.Sorted.{All-permutation, IsPermutation-refl, IsPermutation-sym, IsPermutation-trans, IsPermutation-cons, IsPermutation-middle}
use Rattle.plane_base.specs.Plane.{Point, Edge, turn, is_before, point_order, edge_order}
use Rattle.plane_base.specs.Counts.{Count, Entry}
use Rattle.plane_base.specs.Segments.{parted, angle_order}
use Rattle.plane_base.proofs.Facts.Numbers.Products.{product_positive, product_not_negative, product_not_positive, factor_positive, negation_product}
use Rattle.plane_base.proofs.Facts.Numbers.Polynomials.{var, minus, plus, times, by_ring}
use Rattle.plane_base.proofs.Facts.Points.Turns.{coordinates, place, a_turn, turn_cyclic, turn_swap_last}
use Rattle.plane_base.proofs.Facts.Points.Orders.{edge_itself, is_equal, point_total, point_equal, point_less, before_is_less, less_from_greater}
use Rattle.plane_base.proofs.Facts.Maps.Normal.{IsRising, rising_above, rising_rest, AllPairs-nil, AllPairs-cons, AllPairs-head, AllPairs-tail}
use Rattle.plane_base.proofs.Facts.Crossings.Parted.{AreParted, parted_tells}
use Rattle.plane_base.proofs.Facts.Columns.Order.{inside_from, before_of_order, same_edge}
use Rattle.segment_arrangement.specs.SideLaws.{IsArrangement}
use Rattle.segment_arrangement.specs.FanLaws.{starts_at}
use Rattle.segment_arrangement.specs.Rings.{ends_at, PointsHaveRings}
use Rattle.segment_arrangement.proofs.Facts.ConstantSides.{parted_from_others, directed_entry}
use Rattle.segment_arrangement.proofs.Facts.Angles.{angle_is_lawful}

-- ---- insertion by an order that is strict and total on some entries

module _ (r : Entry Count → Entry Count → Type 0) (P : Entry Count → Type 0) (through : (e f g : Entry Count) → P e → P f → P g → r e f → r f g → r e g) where
  abbrev Inserted : Entry Count → List (Entry Count) → Type 0
  Inserted x ys = (zs : List (Entry Count)) × IsPermutation (x ∷ ys) zs × AllPairs r zs

  inserted : (x : Entry Count) (ys : List (Entry Count)) → P x → All P ys → All (λ y. r x y ⊎ r y x) ys → AllPairs r ys → Inserted x ys
  inserted x [] here all decided sorted = (x ∷ [], IsPermutation-refl (x ∷ []), AllPairs-cons r x [] (All-nil (r x)) (AllPairs-nil r))
  inserted x (y ∷ ys) here all decided sorted =
      by (All-head (λ y. r x y ⊎ r y x) y ys decided) (inserted x ys here (All-tail P y ys all) (All-tail (λ y. r x y ⊎ r y x) y ys decided) (AllPairs-tail r y ys sorted))
    where
      by : r x y ⊎ r y x → Inserted x ys → Inserted x (y ∷ ys)
      by (inl first) rest = (
        x ∷ y ∷ ys,
        IsPermutation-refl (x ∷ y ∷ ys),
        AllPairs-cons r x (y ∷ ys)
            (All-cons (r x) y ys first (λ i d l. through x y (get_or ys i d) here (All-head P y ys all) (All-tail P y ys all i d l) first (AllPairs-head r y ys sorted i d l)))
            sorted,
      )
      by (inr later) rest = (
        y ∷ rest.0,
        IsPermutation-trans (x ∷ y ∷ ys) (y ∷ x ∷ ys) (y ∷ rest.0) (IsPermutation-sym (y ∷ x ∷ ys) (x ∷ y ∷ ys) (IsPermutation-middle (y ∷ []) x ys)) (IsPermutation-cons y (x ∷ ys) rest.0 rest.1),
        AllPairs-cons r y rest.0 (All-permutation (r y) (x ∷ ys) rest.0 rest.1 (All-cons (r y) x ys later (AllPairs-head r y ys sorted))) rest.2,
      )

  sorted_by : (decided : (e f : Entry Count) → P e → P f → e.edge ≢ f.edge → r e f ⊎ r f e) (xs : List (Entry Count)) → IsRising xs → All P xs → (ys : List (Entry Count)) × IsPermutation xs ys × AllPairs r ys
  sorted_by decided [] rising all = ([], IsPermutation-refl [], AllPairs-nil r)
  sorted_by decided (x ∷ xs) rising all = by (sorted_by decided xs (rising_rest x xs rising) (All-tail P x xs all))
    where
      differ : (s t : Edge) → edge_order s t ≡ Less → s ≢ t
      differ s t e same = clash (sym (edge_itself s) ∙ (ap (λ u. edge_order s u) same ∙ e))
        where
          clash : Equal ≡ Less → ⊥
          clash e = absurd (cc)

      each : All (λ y. r x y ⊎ r y x) xs
      each i d l = decided x (get_or xs i d) (All-head P x xs all) (All-tail P x xs all i d l) (differ x.edge (get_or xs i d).edge (rising_above x xs rising i d l))

      by : ((ys : List (Entry Count)) × IsPermutation xs ys × AllPairs r ys) → (ys : List (Entry Count)) × IsPermutation (x ∷ xs) ys × AllPairs r ys
      by h =
          let k = inserted x h.0 (All-head P x xs all) (All-permutation P xs h.0 h.1 (All-tail P x xs all)) (All-permutation (λ y. r x y ⊎ r y x) xs h.0 h.1 each) h.2 in
          (k.0, IsPermutation-trans (x ∷ xs) (x ∷ h.0) k.0 (IsPermutation-cons x xs h.0 h.1) k.1, k.2)

rising_filter : (test : Entry Count → Bool) (es : List (Entry Count)) → IsRising es → IsRising (filter test es)
rising_filter test [] h = h
rising_filter test (e ∷ es) h = by (test e) (rising_filter test es (rising_rest e es h))
  where
    by : (b : Bool) → IsRising (filter test es) → IsRising (cond b (e ∷ filter test es) (filter test es))
    by true k = AllPairs-cons (λ e f. edge_order e.edge f.edge ≡ Less) e (filter test es) (All-filter test (λ f. edge_order e.edge f.edge ≡ Less) es (rising_above e es h)) k
    by false k = k

-- ---- those that end at one point

module _ (v : Point) where
  -- who has one of them on the left isn't straight below
  left_of_end : (a b : Point) → is_before a v ≡ true → is_before b v ≡ true → pos 0 <ℤ turn v a b → pos 0 <ℤ (v.x -ℤ a.x)
  left_of_end a b da db left = by (point_less a v (before_is_less a v da)) (leftward (point_less b v (before_is_less b v db)))
    where
      leftward : (b.x <ℤ v.x) ⊎ ((b.x ≡ v.x) × (b.y <ℤ v.y)) → (b.x -ℤ v.x) ≤ℤ pos 0
      leftward (inl h) = omega (arith, ints)
      leftward (inr h) = omega (arith, ints)

      by : (a.x <ℤ v.x) ⊎ ((a.x ≡ v.x) × (a.y <ℤ v.y)) → (b.x -ℤ v.x) ≤ℤ pos 0 → pos 0 <ℤ (v.x -ℤ a.x)
      by (inl h) l = omega (arith, ints)
      by (inr h) l =
          absurd (clash ((a.x -ℤ v.x) *ℤ (b.y -ℤ v.y)) ((a.y -ℤ v.y) *ℤ (b.x -ℤ v.x)) left (ap (λ z. z *ℤ (b.y -ℤ v.y)) (none h.0) ∙ zero-*ℤ (b.y -ℤ v.y)) (both (a.y -ℤ v.y) (b.x -ℤ v.x) (omega (arith, ints)) l))
        where
          none : a.x ≡ v.x → a.x -ℤ v.x ≡ pos 0
          none e = omega (arith, ints)

          clash : (m n : ℤ) → pos 0 <ℤ (m -ℤ n) → m ≡ pos 0 → pos 0 ≤ℤ n → ⊥
          clash m n l e k = absurd (omega (arith, ints))

          both : (m n : ℤ) → m ≤ℤ pos 0 → n ≤ℤ pos 0 → pos 0 ≤ℤ (m *ℤ n)
          both m n l k = turned _ _ (negation_product m n) (product_not_positive (neg_ℤ m) n (omega (arith, ints)) k)
            where
              turned : (x y : ℤ) → x ≡ neg_ℤ y → x ≤ℤ pos 0 → pos 0 ≤ℤ y
              turned x y e h = omega (arith, ints)

  three_ends : (a b c : Point) → (v.x -ℤ b.x) *ℤ turn v a c ≡ ((v.x -ℤ a.x) *ℤ turn v b c) +ℤ ((v.x -ℤ c.x) *ℤ turn v a b)
  three_ends a b c =
      by_ring (coordinates (v ∷ a ∷ b ∷ c ∷ []) [])
      (times (minus (var 0) (var 4)) (a_turn (place 0) (place 1) (place 3)))
      (plus (times (minus (var 0) (var 2)) (a_turn (place 0) (place 2) (place 3))) (times (minus (var 0) (var 6)) (a_turn (place 0) (place 1) (place 2))))
      refl

  ends_through : (a b c : Point) → is_before a v ≡ true → is_before b v ≡ true → is_before c v ≡ true → pos 0 <ℤ turn v a b → pos 0 <ℤ turn v b c → pos 0 <ℤ turn v a c
  ends_through a b c da db dc first second =
      factor_positive (v.x -ℤ b.x) (turn v a c) (left_of_end b c db dc second)
      (sum _ _ _ (three_ends a b c) (product_positive (v.x -ℤ a.x) (turn v b c) (left_of_end a b da db first) second)
      (product_not_negative (v.x -ℤ c.x) (turn v a b) (leftward (point_less c v (before_is_less c v dc))) (weak _ first)))
    where
      weak : (z : ℤ) → pos 0 <ℤ z → pos 0 ≤ℤ z
      weak z l = omega (arith, ints)

      sum : (x y z : ℤ) → x ≡ y +ℤ z → pos 0 <ℤ y → pos 0 ≤ℤ z → pos 0 <ℤ x
      sum x y z e l m = omega (arith, ints)

      leftward : (c.x <ℤ v.x) ⊎ ((c.x ≡ v.x) × (c.y <ℤ v.y)) → pos 0 ≤ℤ (v.x -ℤ c.x)
      leftward (inl h) = omega (arith, ints)
      leftward (inr h) = omega (arith, ints)

  -- two of them don't lie on one line
  ends_decided : (s t : Edge) → s.b ≡ v → t.b ≡ v → is_before s.a s.b ≡ true → is_before t.a t.b ≡ true → parted s t ≡ true → s ≢ t → turn v s.a t.a ≢ pos 0
  ends_decided s t hs ht ds dt e differ level = by (point_order s.a t.a) refl
    where
      parts : AreParted s t
      parts = parted_tells s t e

      clash : {b : Bool} → b ≡ false → b ≡ true → ⊥
      clash f g = false≢true (sym f ∙ g)

      flat : turn s.a s.b t.a ≡ pos 0
      flat = ap (λ p. turn s.a p t.a) hs ∙ (turn_cyclic s.a v t.a ∙ (turn_swap_last v t.a s.a ∙ ap neg_ℤ level))

      back : turn t.a t.b s.a ≡ pos 0
      back = ap (λ p. turn t.a p s.a) ht ∙ (turn_cyclic t.a v s.a ∙ level)

      by : (o : Ordering) → point_order s.a t.a ≡ o → ⊥
      by Less f = clash parts.first_end (inside_from t.a s flat (before_of_order s.a t.a f) (ap (λ p. is_before t.a p) (hs ∙ sym ht) ∙ dt))
      by Equal f = differ (same_edge s t (point_equal s.a t.a f) (hs ∙ sym ht))
      by Greater f = clash parts.own_first (inside_from s.a t back (before_of_order t.a s.a (less_from_greater point_total s.a t.a f)) (ap (λ p. is_before s.a p) (ht ∙ sym hs) ∙ ds))

-- ---- the rings

module _ (es : List (Entry Count)) (v : Point) (arranged : IsArrangement es) where
  apart : (e f : Entry Count) → Contains es e → Contains es f → e.edge ≢ f.edge → parted e.edge f.edge ≡ true
  apart e f here there differ = All-contains (λ g. e.edge ≢ g.edge → parted e.edge g.edge ≡ true) es f (parted_from_others es arranged e here) there differ

  starts_sorted : (starts : List (Entry Count)) × IsPermutation (filter (starts_at v) es) starts × AllPairs (λ e f. angle_order e.edge f.edge ≡ Less) starts
  starts_sorted =
      sorted_by (λ e f. angle_order e.edge f.edge ≡ Less) (λ e. Contains es e × (e.edge.a ≡ v))
      (λ e f g pe pf pg. angle_is_lawful.through e.edge f.edge g.edge (pe.1 ∙ sym pf.1) (pf.1 ∙ sym pg.1) (directed_entry es arranged e pe.0) (directed_entry es arranged f pf.0) (directed_entry es arranged g pg.0))
      decided (filter (starts_at v) es) (rising_filter (starts_at v) es arranged.rising)
      (λ i d l. (All-filter (starts_at v) (Contains es) es (All-contains_itself es) i d l, point_equal (get_or (filter (starts_at v) es) i d).edge.a v (is_equal (point_order (get_or (filter (starts_at v) es) i d).edge.a v) (filter_passes (starts_at v) es i d l))))
    where
      decided : (e f : Entry Count) → Contains es e × (e.edge.a ≡ v) → Contains es f × (f.edge.a ≡ v) → e.edge ≢ f.edge → (angle_order e.edge f.edge ≡ Less) ⊎ (angle_order f.edge e.edge ≡ Less)
      decided e f pe pf differ = by (angle_order e.edge f.edge) refl
        where
          together : e.edge.a ≡ f.edge.a
          together = pe.1 ∙ sym pf.1

          by : (o : Ordering) → angle_order e.edge f.edge ≡ o → (angle_order e.edge f.edge ≡ Less) ⊎ (angle_order f.edge e.edge ≡ Less)
          by Less h = inl h
          by Equal h = absurd (angle_is_lawful.decided e.edge f.edge together (directed_entry es arranged e pe.0) (directed_entry es arranged f pf.0) (apart e f pe.0 pf.0 differ) differ h)
          by Greater h = inr (angle_is_lawful.reversed e.edge f.edge together ∙ ap ordering_reverse h)

  ends_sorted : (ends : List (Entry Count)) × IsPermutation (filter (ends_at v) es) ends × AllPairs (λ e f. pos 0 <ℤ turn v e.edge.a f.edge.a) ends
  ends_sorted =
      sorted_by (λ e f. pos 0 <ℤ turn v e.edge.a f.edge.a) (λ e. Contains es e × (e.edge.b ≡ v))
      (λ e f g pe pf pg. ends_through v e.edge.a f.edge.a g.edge.a (before e pe) (before f pf) (before g pg))
      decided (filter (ends_at v) es) (rising_filter (ends_at v) es arranged.rising)
      (λ i d l. (All-filter (ends_at v) (Contains es) es (All-contains_itself es) i d l, point_equal (get_or (filter (ends_at v) es) i d).edge.b v (is_equal (point_order (get_or (filter (ends_at v) es) i d).edge.b v) (filter_passes (ends_at v) es i d l))))
    where
      before : (e : Entry Count) → Contains es e × (e.edge.b ≡ v) → is_before e.edge.a v ≡ true
      before e pe = ap (λ p. is_before e.edge.a p) (sym pe.1) ∙ directed_entry es arranged e pe.0

      decided : (e f : Entry Count) → Contains es e × (e.edge.b ≡ v) → Contains es f × (f.edge.b ≡ v) → e.edge ≢ f.edge → (pos 0 <ℤ turn v e.edge.a f.edge.a) ⊎ (pos 0 <ℤ turn v f.edge.a e.edge.a)
      decided e f pe pf differ = by (int_cmp (turn v e.edge.a f.edge.a) (pos 0)) (int_ranks (turn v e.edge.a f.edge.a) (pos 0))
        where
          turned : (y z : ℤ) → y ≡ neg_ℤ z → z <ℤ pos 0 → pos 0 <ℤ y
          turned y z h l = omega (arith, ints)

          by : (o : Ordering) → MatchOrdering o (turn v e.edge.a f.edge.a <ℤ pos 0) (turn v e.edge.a f.edge.a ≡ pos 0) (pos 0 <ℤ turn v e.edge.a f.edge.a) → (pos 0 <ℤ turn v e.edge.a f.edge.a) ⊎ (pos 0 <ℤ turn v f.edge.a e.edge.a)
          by Less h = inr (turned _ _ (turn_swap_last v f.edge.a e.edge.a) h)
          by Equal h = absurd (ends_decided v e.edge f.edge pe.1 pf.1 (directed_entry es arranged e pe.0) (directed_entry es arranged f pf.0) (apart e f pe.0 pf.0 differ) differ h)
          by Greater h = inl h

pub points_have_rings : PointsHaveRings
points_have_rings es v arranged =
    let s = starts_sorted es v arranged in
    let t = ends_sorted es v arranged in
    (s.0, t.0, record { starts_in_order = record { all = s.1; rising = s.2 }; all_ends = t.1; ends_in_order = t.2 })
