-- Round a point the sides of the edges meet, and the region changes at its boundary by turns.
use Rattle.std.proofs.Common.{◌≡◌, ℕ, zero, suc, ◌-◌, ◌%◌, ◌<◌, Bool, true, false, not, cond, if◌then◌else◌, ◌&&◌, List, [], ◌∷◌, ◌++◌, length, length-append, take, filter, append_assoc, append-nil, All, AllPairs, Contains, IsPermutation, ℤ, pos, ◌+ℤ◌, ◌-ℤ◌, ◌*ℤ◌, neg_ℤ, ◌≤ℤ◌, ◌<ℤ◌, int_lt, get_or, add-one, refl, sym, ap, ◌∙◌, subst, arith}
use Rattle.std.specs.Ordering.{is_eq}
use Rattle.std.proofs.lemmas.Int.{ints}
use Rattle.std.proofs.lemmas.List.Elements.{All-head, All-tail, All-weaker, All-append, All-contains, All-contains_itself, All-filter, filter_passes, Contains-append_right}
use Rattle.std.proofs.lemmas.List.Sorted.{All-permutation}
use Rattle.std.proofs.Math.Seq.{take-append_seam, get_or-append_seam}
use Rattle.plane_base.specs.Plane.{Point, turn, point_order}
use Rattle.plane_base.specs.Counts.{Count, Entry, boolean}
use Rattle.plane_base.specs.Balance.{mark, IsBalanced}
use Rattle.plane_base.specs.Windings.{winding}
use Rattle.plane_base.specs.Regions.{FillRule, OverlayRule, region}
use Rattle.plane_base.specs.Totals.{total}
use Rattle.plane_base.proofs.Facts.Points.Turns.{turn_swap_last, turn_end_twice}
use Rattle.plane_base.proofs.Facts.Points.Orders.{is_equal, point_equal, before_is_less}
use Rattle.plane_base.proofs.Facts.Maps.Normal.{AllPairs-head, AllPairs-tail}
use Rattle.plane_base.proofs.Facts.Lists.Totals.{total_append, total_filter, total_pointwise, total_pointwise_on, total_permutation, total_difference}
use Rattle.segment_arrangement.specs.Columns.{sum_of}
use Rattle.segment_arrangement.specs.EdgeSides.{lower_side, upper_side, differ, is_boundary}
use Rattle.segment_arrangement.specs.SideLaws.{IsArrangement}
use Rattle.segment_arrangement.specs.FanLaws.{whole, sum_of_counts, starts_at, IsFan}
use Rattle.segment_arrangement.specs.Rings.{ends_at, right_side, left_side, Leads, NodeRing, IsAlternating, boundary_ring, BoundaryAlternates, SectorsAreWhole}
use Rattle.segment_arrangement.proofs.Facts.ColumnPlaces.{lt_holds, lt_fails}
use Rattle.segment_arrangement.proofs.Facts.AlongKey.{part, same_count}
use Rattle.segment_arrangement.proofs.Facts.ConstantSides.{directed_entry}
use Rattle.segment_arrangement.proofs.Facts.GreatestEntry.{Contains-head}
use Rattle.segment_arrangement.proofs.Facts.FanSums.{fan_sides}
use Rattle.segment_arrangement.proofs.Facts.EndFans.{end_fan, lower_in_end_fan}

-- ---- lists that lead on

module _ {A W : Type 0} (right left : A → W) where
  leads_append : (from mid to : W) (xs ys : List A) → Leads right left from mid xs → Leads right left mid to ys → Leads right left from to (xs ++ ys)
  leads_append from mid to [] ys h k = subst (λ z. Leads right left z to ys) (sym h) k
  leads_append from mid to (x ∷ xs) ys h k = (h.0, leads_append (left x) mid to xs ys h.1 k)

  leads_seen : {V : Type 0} (f : W → V) (from to : W) (xs : List A) → Leads right left from to xs → Leads (λ a. f (right a)) (λ a. f (left a)) (f from) (f to) xs
  leads_seen f from to [] h = ap f h
  leads_seen f from to (x ∷ xs) h = (ap f h.0, leads_seen f (left x) to xs h.1)

  -- those that lead nowhere may be left out
  leads_filter : (keep : A → Bool) → ((x : A) → keep x ≡ false → right x ≡ left x) → (from to : W) (xs : List A) → Leads right left from to xs → Leads right left from to (filter keep xs)
  leads_filter keep idle from to [] h = h
  leads_filter keep idle from to (x ∷ xs) h = by (keep x) refl (leads_filter keep idle (left x) to xs h.1)
    where
      by : (b : Bool) → keep x ≡ b → Leads right left (left x) to (filter keep xs) → Leads right left from to (cond b (x ∷ filter keep xs) (filter keep xs))
      by true e k = (h.0, k)
      by false e k = subst (λ z. Leads right left z to (filter keep xs)) (sym (idle x e) ∙ h.0) k

  leads_first : (from to : W) (xs : List A) (d : A) → 0 < length xs → Leads right left from to xs → right (get_or xs 0 d) ≡ from
  leads_first from to [] d some h = absurd (omega arith)
  leads_first from to (x ∷ xs) d some h = h.0

  leads_next : (from to : W) (xs : List A) (i : ℕ) (d : A) → suc i < length xs → Leads right left from to xs → right (get_or xs (suc i) d) ≡ left (get_or xs i d)
  leads_next from to [] i d more h = absurd (omega arith)
  leads_next from to (x ∷ xs) zero d more h = leads_first (left x) to xs d (omega arith) h.1
  leads_next from to (x ∷ xs) (suc i) d more h = leads_next (left x) to xs i d (omega arith) h.1

  leads_last : (from to : W) (xs : List A) (i : ℕ) (d : A) → suc i ≡ length xs → Leads right left from to xs → left (get_or xs i d) ≡ to
  leads_last from to [] i d e h = absurd (omega arith)
  leads_last from to (x ∷ []) zero d e h = h.1
  leads_last from to (x ∷ []) (suc i) d e h = absurd (omega arith)
  leads_last from to (x ∷ y ∷ xs) zero d e h = absurd (omega arith)
  leads_last from to (x ∷ y ∷ xs) (suc i) d e h = leads_last (left x) to (y ∷ xs) i d (omega arith) h.1

-- where each turns from true to false or back, the length tells whether all together do
turns : {A : Type 0} (right left : A → Bool) (from to : Bool) (xs : List A) → All (λ x. left x ≡ not (right x)) xs → Leads right left from to xs
    → (from ≡ to → length xs % 2 ≡ 0) × (from ≡ not to → length xs % 2 ≡ 1)
turns right left from to [] each h = ((λ e. refl), (λ e. absurd (clash from to h e)))
  where
    clash : (b c : Bool) → b ≡ c → b ≡ not c → ⊥
    clash true true e f = absurd (cc)
    clash true false e f = absurd (cc)
    clash false true e f = absurd (cc)
    clash false false e f = absurd (cc)
turns right left from to (x ∷ xs) each h = by (turns right left (left x) to xs (All-tail (λ x. left x ≡ not (right x)) x xs each) h.1)
  where
    turned : left x ≡ not from
    turned = All-head (λ x. left x ≡ not (right x)) x xs each ∙ ap not h.0

    twice : (b : Bool) → not (not b) ≡ b
    twice true = refl
    twice false = refl

    even : (n : ℕ) → n % 2 ≡ 1 → suc n % 2 ≡ 0
    even n e = omega arith

    odd : (n : ℕ) → n % 2 ≡ 0 → suc n % 2 ≡ 1
    odd n e = omega arith

    by : (left x ≡ to → length xs % 2 ≡ 0) × (left x ≡ not to → length xs % 2 ≡ 1) → (from ≡ to → suc (length xs) % 2 ≡ 0) × (from ≡ not to → suc (length xs) % 2 ≡ 1)
    by k = ((λ e. even (length xs) (k.1 (turned ∙ ap not e))), (λ e. odd (length xs) (k.0 (turned ∙ (ap not e ∙ twice to)))))

module _ {A : Type 0} (right left : A → Bool) (from : Bool) (xs : List A) (each : All (λ x. left x ≡ not (right x)) xs) (h : Leads right left from from xs) where
  alternating : IsAlternating left xs
  alternating = record {
    next = λ i d more. rw add-one (each (suc i) d (omega arith) ∙ ap not (leads_next right left from from xs i d (omega arith) h));
    round = λ d some. each 0 d some ∙ ap not (leads_first right left from from xs d some h ∙ sym (leads_last right left from from xs (length xs - 1) d (omega arith) h));
    even = (turns right left from from xs each h).0 refl;
  }

-- ---- sums over the edges that start or end at v

module _ (es : List (Entry Count)) (v : Point) (n : Count → ℤ) where
  pub sum_filtered : (test : Entry Count → Bool) (g : Entry Count → ℤ) (fs : List (Entry Count)) → IsPermutation (filter test es) fs → total (λ e. cond (test e) (g e) (pos 0)) es ≡ total g fs
  sum_filtered test g fs h =
      total_pointwise (λ e. cond (test e) (g e) (pos 0)) (λ e. (if test e then g e else pos 0)) es (λ e. refl)
      ∙ (sym (total_filter g test es) ∙ sym (total_permutation g (filter test es) fs h))

  balanced_sums : IsBalanced n es → (starts ends : List (Entry Count)) → IsPermutation (filter (starts_at v) es) starts → IsPermutation (filter (ends_at v) es) ends
      → total (λ e. n e.count) starts ≡ total (λ e. n e.count) ends
  balanced_sums balanced starts ends h k =
      sym (sum_filtered (starts_at v) (λ e. n e.count) starts h)
      ∙ (level _ _ (sym (total_difference (λ e. cond (starts_at v e) (n e.count) (pos 0)) (λ e. cond (ends_at v e) (n e.count) (pos 0)) es)
      ∙ (total_pointwise (λ e. cond (starts_at v e) (n e.count) (pos 0) -ℤ cond (ends_at v e) (n e.count) (pos 0)) (λ e. n e.count *ℤ (mark v e.edge.a -ℤ mark v e.edge.b)) es (λ e. weighed (n e.count) (starts_at v e) (ends_at v e)) ∙ balanced v))
      ∙ sum_filtered (ends_at v) (λ e. n e.count) ends k)
    where
      level : (y z : ℤ) → y -ℤ z ≡ pos 0 → y ≡ z
      level y z e = omega (arith, ints)

      weighed : (m : ℤ) (b c : Bool) → cond b m (pos 0) -ℤ cond c m (pos 0) ≡ m *ℤ (cond b (pos 1) (pos 0) -ℤ cond c (pos 1) (pos 0))
      weighed m true true = omega (arith, ints)
      weighed m true false = omega (arith, ints)
      weighed m false true = omega (arith, ints)
      weighed m false false = omega (arith, ints)

-- ---- the two halves of a ring

abbrev joined_with : Count → List (Entry Count) → Count
joined_with w es = boolean.join w (sum_of_counts es)

module _ (es : List (Entry Count)) (arranged : IsArrangement es) (v : Point) where
  abbrev start : Count
  start = winding es (whole v)

  -- one more at the end of a sum
  one_more : (front : List (Entry Count)) (e : Entry Count) → boolean.join (joined_with start front) e.count ≡ joined_with start (front ++ e ∷ [])
  one_more front e =
      same_count (boolean.join (joined_with start front) e.count) (joined_with start (front ++ e ∷ []))
      (moved start.subject _ e.count.subject _ (total_append (λ f. f.count.subject) front (e ∷ []))) (moved start.clip _ e.count.clip _ (total_append (λ f. f.count.clip) front (e ∷ [])))
    where
      moved : (w y m z : ℤ) → z ≡ y +ℤ (m +ℤ pos 0) → (w +ℤ y) +ℤ m ≡ w +ℤ z
      moved w y m z e = omega (arith, ints)

  -- one more at the head
  one_before : (e : Entry Count) (rest : List (Entry Count)) → boolean.join (joined_with start rest) e.count ≡ joined_with start (e ∷ rest)
  one_before e rest =
      same_count (boolean.join (joined_with start rest) e.count) (joined_with start (e ∷ rest)) (moved start.subject (sum_of_counts rest).subject e.count.subject) (moved start.clip (sum_of_counts rest).clip e.count.clip)
    where
      moved : (w y m : ℤ) → (w +ℤ y) +ℤ m ≡ w +ℤ (m +ℤ y)
      moved w y m = omega (arith, ints)

  none_joined : joined_with start [] ≡ start
  none_joined = same_count (joined_with start []) start (alone start.subject) (alone start.clip)
    where
      alone : (y : ℤ) → y +ℤ pos 0 ≡ y
      alone y = omega (arith, ints)

  module _ (fan : List (Entry Count)) (is : IsFan es v fan) where
    starts_here : All (λ f. starts_at v f ≡ true) fan
    starts_here = All-permutation (λ f. starts_at v f ≡ true) (filter (starts_at v) es) fan is.all (filter_passes (starts_at v) es)

    lead_on : (front suffix : List (Entry Count)) (from : Count) → fan ≡ front ++ suffix → from ≡ joined_with start front → Leads (right_side es v) (left_side es v) from (joined_with start fan) suffix
    lead_on front [] from e f = f ∙ ap (λ l. joined_with start l) (sym (append-nil front) ∙ sym e)
    lead_on front (x ∷ rest) from e f = (
      ap (λ b. cond b (lower_side es x.edge) (upper_side es x)) here ∙ (lower ∙ sym f),
      lead_on (front ++ x ∷ []) rest (left_side es v x) (e ∙ sym (append_assoc front (x ∷ []) rest))
          (ap (λ b. cond b (upper_side es x) (lower_side es x.edge)) here ∙ (ap (λ w. boolean.join w x.count) lower ∙ one_more front x)),
    )
      where
        inside : length front < length fan
        inside = rw e (rw length-append (omega arith))

        at : get_or fan (length front) x ≡ x
        at = ap (λ l. get_or l (length front) x) e ∙ get_or-append_seam front x rest x

        lower : lower_side es x.edge ≡ joined_with start front
        lower =
            ap (λ g. lower_side es g.edge) (sym at)
            ∙ (fan_sides.each es fan v (length front) x arranged is inside
            ∙ ap (λ l. joined_with start l) (ap (λ l. take (length front) l) e ∙ take-append_seam front (x ∷ rest)))

        here : starts_at v x ≡ true
        here = ap (λ g. starts_at v g) (sym at) ∙ starts_here (length front) x inside

  module _ (ends : List (Entry Count)) (all : IsPermutation (filter (ends_at v) es) ends) (in_order : AllPairs (λ e f. pos 0 <ℤ turn v e.edge.a f.edge.a) ends) where
    in_map : All (Contains es) ends
    in_map = All-permutation (Contains es) (filter (ends_at v) es) ends all (All-filter (ends_at v) (Contains es) es (All-contains_itself es))

    at_point : All (λ f. f.edge.b ≡ v) ends
    at_point =
        All-permutation (λ f. f.edge.b ≡ v) (filter (ends_at v) es) ends all
        (All-weaker (λ f. ends_at v f ≡ true) (λ f. f.edge.b ≡ v) (λ f e. point_equal f.edge.b v (is_equal (point_order f.edge.b v) e)) (filter (ends_at v) es) (filter_passes (ends_at v) es))

    -- the sum over those to the left of one is that over those after it
    sum_after : (n : Count → ℤ) (x : Entry Count) (rest front : List (Entry Count)) → AllPairs (λ e f. pos 0 <ℤ turn v e.edge.a f.edge.a) (front ++ x ∷ rest)
        → total (λ f. cond (int_lt (pos 0) (turn v x.edge.a f.edge.a)) (n f.count) (pos 0)) (front ++ x ∷ rest) ≡ total (λ f. n f.count) rest
    sum_after n x rest [] sorted =
        skipped _ _ _ (ap (λ z. cond (int_lt (pos 0) z) (n x.count) (pos 0)) (turn_end_twice v x.edge.a))
        (total_pointwise_on (λ f. cond (int_lt (pos 0) (turn v x.edge.a f.edge.a)) (n f.count) (pos 0)) (λ f. n f.count) rest
        (λ i d l. ap (λ b. cond b (n (get_or rest i d).count) (pos 0)) (lt_holds (pos 0) (turn v x.edge.a (get_or rest i d).edge.a) (AllPairs-head (λ e f. pos 0 <ℤ turn v e.edge.a f.edge.a) x rest sorted i d l))))
      where
        skipped : (m y z : ℤ) → m ≡ pos 0 → y ≡ z → m +ℤ y ≡ z
        skipped m y z e f = omega (arith, ints)
    sum_after n x rest (y ∷ front) sorted =
        skipped _ _ _ (ap (λ b. cond b (n y.count) (pos 0)) (lt_fails (pos 0) (turn v x.edge.a y.edge.a) (under _ _ (turn_swap_last v x.edge.a y.edge.a) before)))
        (sum_after n x rest front (AllPairs-tail (λ e f. pos 0 <ℤ turn v e.edge.a f.edge.a) y (front ++ x ∷ rest) sorted))
      where
        skipped : (m y z : ℤ) → m ≡ pos 0 → y ≡ z → m +ℤ y ≡ z
        skipped m y z e f = omega (arith, ints)

        before : pos 0 <ℤ turn v y.edge.a x.edge.a
        before =
            All-contains (λ f. pos 0 <ℤ turn v y.edge.a f.edge.a) (front ++ x ∷ rest) x (AllPairs-head (λ e f. pos 0 <ℤ turn v e.edge.a f.edge.a) y (front ++ x ∷ rest) sorted)
            (Contains-append_right front (x ∷ rest) x (Contains-head x rest))

        under : (y z : ℤ) → y ≡ neg_ℤ z → pos 0 <ℤ z → y ≤ℤ pos 0
        under y z e l = omega (arith, ints)

    lead_back : (front suffix : List (Entry Count)) (from : Count) → ends ≡ front ++ suffix → from ≡ joined_with start suffix → Leads (right_side es v) (left_side es v) from start suffix
    lead_back front [] from e f = f ∙ none_joined
    lead_back front (x ∷ rest) from e f = (
      ap (λ b. cond b (lower_side es x.edge) (upper_side es x)) elsewhere ∙ (ap (λ w. boolean.join w x.count) lower ∙ (one_before x rest ∙ sym f)),
      lead_back (front ++ x ∷ []) rest (left_side es v x) (e ∙ sym (append_assoc front (x ∷ []) rest)) (ap (λ b. cond b (upper_side es x) (lower_side es x.edge)) elsewhere ∙ lower),
    )
      where
        inside : length front < length ends
        inside = rw e (rw length-append (omega arith))

        at : get_or ends (length front) x ≡ x
        at = ap (λ l. get_or l (length front) x) e ∙ get_or-append_seam front x rest x

        here : Contains es x
        here = subst (λ g. Contains es g) at (in_map (length front) x inside)

        ends_here : x.edge.b ≡ v
        ends_here = ap (λ g. g.edge.b) (sym at) ∙ at_point (length front) x inside

        elsewhere : starts_at v x ≡ false
        elsewhere = ap is_eq (ap (λ p. point_order x.edge.a p) (sym ends_here) ∙ before_is_less x.edge.a x.edge.b (directed_entry es arranged x here))

        others : (n : Count → ℤ) → part n (end_fan v x.edge) es ≡ total (λ f. n f.count) rest
        others n =
            total_pointwise (λ f. cond (end_fan v x.edge f.edge) (n f.count) (pos 0)) (λ f. cond (ends_at v f) (cond (int_lt (pos 0) (turn v x.edge.a f.edge.a)) (n f.count) (pos 0)) (pos 0)) es
            (λ f. split (ends_at v f) (int_lt (pos 0) (turn v x.edge.a f.edge.a)) (n f.count))
            ∙ (sum_filtered es v n (ends_at v) (λ f. cond (int_lt (pos 0) (turn v x.edge.a f.edge.a)) (n f.count) (pos 0)) ends all
            ∙ (ap (λ l. total (λ f. cond (int_lt (pos 0) (turn v x.edge.a f.edge.a)) (n f.count) (pos 0)) l) e
            ∙ sum_after n x rest front (subst (λ l. AllPairs (λ e f. pos 0 <ℤ turn v e.edge.a f.edge.a) l) e in_order)))
          where
            split : (b c : Bool) (m : ℤ) → cond (b && c) m (pos 0) ≡ cond b (cond c m (pos 0)) (pos 0)
            split true c m = refl
            split false c m = refl

        lower : lower_side es x.edge ≡ joined_with start rest
        lower =
            lower_in_end_fan es arranged x here v ends_here
            ∙ ap (λ c. boolean.join start c) (same_count (sum_of (end_fan v x.edge) es) (sum_of_counts rest) (others (λ c. c.subject)) (others (λ c. c.clip)))

-- ---- the laws

pub node_ring : NodeRing
node_ring es starts ends v arranged ring =
    leads_append (right_side es v) (left_side es v) (winding es (whole v)) (joined_with (winding es (whole v)) starts) (winding es (whole v)) starts ends
    (lead_on es arranged v starts ring.starts_in_order [] starts (winding es (whole v)) refl (sym (none_joined es arranged v)))
    (lead_back es arranged v ends ring.all_ends ring.ends_in_order [] ends (joined_with (winding es (whole v)) starts) refl
    (ap (λ c. boolean.join (winding es (whole v)) c)
    (same_count (sum_of_counts starts) (sum_of_counts ends)
    (balanced_sums es v (λ c. c.subject) arranged.balanced.subject starts ends ring.starts_in_order.all ring.all_ends)
    (balanced_sums es v (λ c. c.clip) arranged.balanced.clip starts ends ring.starts_in_order.all ring.all_ends))))

-- a test that differs turns
same_if : (b c : Bool) → differ b c ≡ false → b ≡ c
same_if true true e = refl
same_if true false e = absurd (cc)
same_if false true e = absurd (cc)
same_if false false e = refl

turned_if : (b c : Bool) → differ b c ≡ true → c ≡ not b
turned_if true true e = absurd (cc)
turned_if true false e = refl
turned_if false true e = refl
turned_if false false e = absurd (cc)

swapped_if : (b c : Bool) → differ b c ≡ true → b ≡ not c
swapped_if true true e = absurd (cc)
swapped_if true false e = refl
swapped_if false true e = refl
swapped_if false false e = absurd (cc)

module _ (fill : FillRule) (rule : OverlayRule) (es : List (Entry Count)) (v : Point) where
  abbrev pub on_right : Entry Count → Bool
  on_right e = region fill rule (right_side es v e)

  abbrev pub on_left : Entry Count → Bool
  on_left e = region fill rule (left_side es v e)

  idle : (e : Entry Count) → is_boundary fill rule es e ≡ false → on_right e ≡ on_left e
  idle e h = by (starts_at v e)
    where
      same : region fill rule (lower_side es e.edge) ≡ region fill rule (upper_side es e)
      same = same_if (region fill rule (lower_side es e.edge)) (region fill rule (upper_side es e)) h

      by : (b : Bool) → region fill rule (cond b (lower_side es e.edge) (upper_side es e)) ≡ region fill rule (cond b (upper_side es e) (lower_side es e.edge))
      by true = same
      by false = sym same

  pub changes : (e : Entry Count) → is_boundary fill rule es e ≡ true → on_left e ≡ not (on_right e)
  changes e h = by (starts_at v e)
    where
      by : (b : Bool) → region fill rule (cond b (upper_side es e) (lower_side es e.edge)) ≡ not (region fill rule (cond b (lower_side es e.edge) (upper_side es e)))
      by true = turned_if (region fill rule (lower_side es e.edge)) (region fill rule (upper_side es e)) h
      by false = swapped_if (region fill rule (lower_side es e.edge)) (region fill rule (upper_side es e)) h

pub boundary_alternates : BoundaryAlternates
boundary_alternates fill rule es starts ends v arranged ring =
    alternating (on_right fill rule es v) (on_left fill rule es v) (region fill rule (winding es (whole v))) (boundary_ring fill rule es starts ends)
    (All-weaker (λ e. is_boundary fill rule es e ≡ true) (λ e. on_left fill rule es v e ≡ not (on_right fill rule es v e)) (changes fill rule es v) (boundary_ring fill rule es starts ends) (filter_passes (is_boundary fill rule es) (starts ++ ends)))
    (leads_filter (on_right fill rule es v) (on_left fill rule es v) (is_boundary fill rule es) (idle fill rule es v) (region fill rule (winding es (whole v))) (region fill rule (winding es (whole v))) (starts ++ ends)
    (leads_seen (right_side es v) (left_side es v) (region fill rule) (winding es (whole v)) (winding es (whole v)) (starts ++ ends) (node_ring es starts ends v arranged ring)))

-- those of a list that lead nowhere may be left out
leads_filter_on : {A W : Type 0} (right left : A → W) (keep : A → Bool) (from to : W) (xs : List A) → All (λ x. keep x ≡ false → right x ≡ left x) xs → Leads right left from to xs
    → Leads right left from to (filter keep xs)
leads_filter_on right left keep from to [] idle h = h
leads_filter_on right left keep from to (x ∷ xs) idle h =
    by (keep x) refl (leads_filter_on right left keep (left x) to xs (All-tail (λ x. keep x ≡ false → right x ≡ left x) x xs idle) h.1)
  where
    by : (b : Bool) → keep x ≡ b → Leads right left (left x) to (filter keep xs) → Leads right left from to (cond b (x ∷ filter keep xs) (filter keep xs))
    by true e k = (h.0, k)
    by false e k = subst (λ z. Leads right left z to (filter keep xs)) (sym (All-head (λ x. keep x ≡ false → right x ≡ left x) x xs idle e) ∙ h.0) k

pub sectors_are_whole : SectorsAreWhole
sectors_are_whole fill rule es starts ends v passes arranged ring bounds =
    leads_filter_on (on_right fill rule es v) (on_left fill rule es v) passes (region fill rule (winding es (whole v))) (region fill rule (winding es (whole v))) (starts ++ ends)
    (All-weaker (Contains es) (λ e. passes e ≡ false → on_right fill rule es v e ≡ on_left fill rule es v e) (λ e here out. idle fill rule es v e (unless (is_boundary fill rule es e) (passes e) (bounds e here) out)) (starts ++ ends)
    (All-append (Contains es) starts ends (in_map (starts_at v) starts ring.starts_in_order.all) (in_map (ends_at v) ends ring.all_ends)))
    (leads_seen (right_side es v) (left_side es v) (region fill rule) (winding es (whole v)) (winding es (whole v)) (starts ++ ends) (node_ring es starts ends v arranged ring))
  where
    unless : (b c : Bool) → (b ≡ true → c ≡ true) → c ≡ false → b ≡ false
    unless true c f e = let g : c ≡ true = f refl in absurd (cc)
    unless false c f e = refl

    in_map : (test : Entry Count → Bool) (fs : List (Entry Count)) → IsPermutation (filter test es) fs → All (Contains es) fs
    in_map test fs all = All-permutation (Contains es) (filter test es) fs all (All-filter test (Contains es) es (All-contains_itself es))
