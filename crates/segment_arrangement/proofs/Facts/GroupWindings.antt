-- The winding at a place of a box is that of the part of the map that lies in the box.
--
-- What lies in other boxes adds nothing there: beside the box nothing reaches over the place, above it nothing is below the place,
-- and below it what reaches over the place sums to nothing.
use Rattle.std.proofs.Common.{◌≡◌, Bool, true, false, cond, ◌&&◌, if◌then◌else◌, List, Any, AllPairs, Contains, ◌⊎◌, inl, inr, ⊎_elim, ℤ, pos, ◌+ℤ◌, ◌-ℤ◌, ◌*ℤ◌, ◌≤ℤ◌, ◌<ℤ◌, int_lt, int_le, refl, sym, ap, ap₂, ◌∙◌, arith}
use Rattle.std.specs.List.{list_any}
use Rattle.std.proofs.lemmas.Int.{ints}
use Rattle.std.proofs.lemmas.Bool.{and_parts, and_from, false≢true}
use Rattle.std.proofs.lemmas.List.Folds.{Any-from_list_any, list_any-from_Any}
use Rattle.std.proofs.lemmas.List.Elements.{All-weaker, All-contains, All-contains_itself}
use Rattle.std.proofs.Math.IntN.{*ℤ-zero}
use Rattle.plane_base.specs.Plane.{Point, RationalPoint, IsRational, is_below, is_before}
use Rattle.plane_base.specs.Counts.{Count, Entry}
use Rattle.plane_base.specs.Balance.{IsBalancedForAll, IsBalancedMap}
use Rattle.plane_base.specs.Totals.{total}
use Rattle.plane_base.specs.Windings.{winding}
use Rattle.plane_base.proofs.Facts.Lists.Totals.{total_filter, total_pointwise_on, total_sum}
use Rattle.plane_base.proofs.Facts.Maps.Balance.{balanced_subject, balanced_clip}
use Rattle.plane_base.proofs.Facts.Maps.Laying.{IsDirected}
use Rattle.plane_base.proofs.Facts.Numbers.Products.{product_monotone}
use Rattle.plane_base.proofs.Facts.Points.Orders.{point_less_x, before_is_less}
use Rattle.segment_split.specs.Groups.{Bounds, LiesWithin, lies_within, in_box, AreApart, AreGroups, part}
use Rattle.segment_split.proofs.Facts.Groups.Boxes.{within_told, in_box_told, apart_points, one_or_apart, IsElsewhere, here_or_elsewhere}
use Rattle.segment_arrangement.specs.GroupSides.{IsPlaceIn}
use Rattle.segment_arrangement.proofs.Facts.ColumnPlaces.{same_tests, lt_fails, lt_tells, lt_tells_not}
use Rattle.segment_arrangement.proofs.Facts.AlongKey.{same_count}
use Rattle.segment_arrangement.proofs.Facts.GroupPlaces.{left_of_place, right_of_place, above_place, below_place}

-- ---- sums

added : (x y m : ℤ) → x ≡ y → x ≡ y +ℤ (m *ℤ (pos 0 -ℤ pos 0))
added x y m e = more x y (m *ℤ (pos 0 -ℤ pos 0)) e (*ℤ-zero m)
  where
    more : (x y z : ℤ) → x ≡ y → z ≡ pos 0 → x ≡ y +ℤ z
    more x y z e f = omega (arith, ints)

-- what counts where k is passed, told by the two ends
passing : (m k x y : ℤ) → x ≤ℤ y → cond (int_le x k && int_lt k y) m (pos 0) ≡ pos 0 +ℤ (m *ℤ (cond (int_le x k) (pos 1) (pos 0) -ℤ cond (int_le y k) (pos 1) (pos 0)))
passing m k x y l = by (int_le x k) (int_le y k) (int_lt k y) refl refl refl
  where
    by : (begun ended unended : Bool) → int_le x k ≡ begun → int_le y k ≡ ended → int_lt k y ≡ unended
        → cond (begun && unended) m (pos 0) ≡ pos 0 +ℤ (m *ℤ (cond begun (pos 1) (pos 0) -ℤ cond ended (pos 1) (pos 0)))
    by true true true p q r = absurd (omega (arith, ints))
    by true true false p q r = omega (arith, ints)
    by true false true p q r = omega (arith, ints)
    by true false false p q r = absurd (omega (arith, ints))
    by false true unended p q r = absurd (omega (arith, ints))
    by false false unended p q r = omega (arith, ints)

-- ---- boxes below

-- the point lies in a box of the list that is below this one
abbrev is_under : List Bounds → Bounds → Point → Bool
is_under boxes box v = list_any (λ c. int_lt c.top box.bottom && lies_within c v) boxes

module _ (boxes : List Bounds) (apart : AllPairs AreApart boxes) (box : Bounds) where
  -- of a point in a box of the list the box alone tells it
  under_told : (c : Bounds) (v : Point) → Contains boxes c → lies_within c v ≡ true → is_under boxes box v ≡ int_lt c.top box.bottom
  under_told c v at inside = same_tests (is_under boxes box v) (int_lt c.top box.bottom) forth back
    where
      forth : is_under boxes box v ≡ true → int_lt c.top box.bottom ≡ true
      forth e = by (Any-from_list_any (λ c. int_lt c.top box.bottom && lies_within c v) boxes e)
        where
          by : Any (λ c. int_lt c.top box.bottom && lies_within c v ≡ true) boxes → int_lt c.top box.bottom ≡ true
          by (k, d, l, same, h) =
              let both = and_parts (int_lt d.top box.bottom) (lies_within d v) h in
              ⊎_elim (λ one. ap (λ z. int_lt z.top box.bottom) one ∙ both.0) (λ other. absurd (apart_points c d v other (within_told c v inside) (within_told d v both.1)))
              (one_or_apart boxes c d apart at (k, l, same))

      back : int_lt c.top box.bottom ≡ true → is_under boxes box v ≡ true
      back e =
          list_any-from_Any (λ c. int_lt c.top box.bottom && lies_within c v) boxes
          (at.0, c, at.1, at.2, and_from (int_lt c.top box.bottom) (lies_within c v) e inside)

-- ---- the winding

module _ (boxes : List Bounds) (box : Bounds) (at : Contains boxes box) (es : List (Entry Count)) (groups : AreGroups boxes es) (directed : IsDirected es) (p : RationalPoint) (some : IsRational p) (inside : IsPlaceIn box p) where
  -- 1 where the point lies in a box below, and not right of the place
  abbrev weight : Point → ℤ
  weight v = cond (is_under boxes box v && int_le (pos p.q *ℤ v.x) p.x) (pos 1) (pos 0)

  -- what is below the place and not in the box is told by the ends
  module _ (n : Count → ℤ) (e : Entry Count) (here : Contains es e) where
    rightward : e.edge.a.x ≤ℤ e.edge.b.x
    rightward = point_less_x e.edge.a e.edge.b (before_is_less e.edge.a e.edge.b (All-contains (λ e. is_before e.edge.a e.edge.b ≡ true) es e directed here))

    none_under : (u v : Bool) (x y : Bool) → u ≡ false → v ≡ false → n e.count *ℤ (cond (u && x) (pos 1) (pos 0) -ℤ cond (v && y) (pos 1) (pos 0)) ≡ n e.count *ℤ (pos 0 -ℤ pos 0)
    none_under u v x y f g = ap₂ (λ b c. n e.count *ℤ (cond (b && x) (pos 1) (pos 0) -ℤ cond (c && y) (pos 1) (pos 0))) f g

    all_under : (u v : Bool) (x y : Bool) → u ≡ true → v ≡ true → n e.count *ℤ (cond (u && x) (pos 1) (pos 0) -ℤ cond (v && y) (pos 1) (pos 0)) ≡ n e.count *ℤ (cond x (pos 1) (pos 0) -ℤ cond y (pos 1) (pos 0))
    all_under u v x y f g = ap₂ (λ b c. n e.count *ℤ (cond (b && x) (pos 1) (pos 0) -ℤ cond (c && y) (pos 1) (pos 0))) f g

    in_own_box : in_box box e.edge ≡ true → (b : Bool) → cond b (n e.count) (pos 0) ≡ cond b (n e.count) (pos 0) +ℤ (n e.count *ℤ (weight e.edge.a -ℤ weight e.edge.b))
    in_own_box h b =
        let ends = and_parts (lies_within box e.edge.a) (lies_within box e.edge.b) h in
        added (cond b (n e.count) (pos 0)) (cond b (n e.count) (pos 0)) (n e.count) refl
        ∙ ap (λ z. cond b (n e.count) (pos 0) +ℤ z)
        (sym (none_under (is_under boxes box e.edge.a) (is_under boxes box e.edge.b) (int_le (pos p.q *ℤ e.edge.a.x) p.x) (int_le (pos p.q *ℤ e.edge.b.x) p.x)
        (under_told boxes groups.apart box box e.edge.a at ends.0 ∙ vertical (within_told box e.edge.a ends.0))
        (under_told boxes groups.apart box box e.edge.b at ends.1 ∙ vertical (within_told box e.edge.a ends.0))))
      where
        vertical : LiesWithin box e.edge.a → int_lt box.top box.bottom ≡ false
        vertical k = lt_fails box.top box.bottom (chain _ _ _ k.bottom k.top)
          where
            chain : (x y z : ℤ) → x ≤ℤ y → y ≤ℤ z → x ≤ℤ z
            chain x y z l m = omega (arith, ints)

    in_other_box : (c : Bounds) → Contains boxes c → AreApart box c → in_box c e.edge ≡ true
        → cond (is_below e.edge.a e.edge.b p) (n e.count) (pos 0) ≡ pos 0 +ℤ (n e.count *ℤ (weight e.edge.a -ℤ weight e.edge.b))
    in_other_box c there other h = by (int_lt c.top box.bottom) refl
      where
        ends : (lies_within c e.edge.a ≡ true) × (lies_within c e.edge.b ≡ true)
        ends = and_parts (lies_within c e.edge.a) (lies_within c e.edge.b) h

        under : (v : Point) → lies_within c v ≡ true → is_under boxes box v ≡ int_lt c.top box.bottom
        under v = under_told boxes groups.apart box c v there

        beside : (l : c.top <ℤ box.bottom → ⊥) → AreApart box c → is_below e.edge.a e.edge.b p ≡ false
        beside l (inl k) = right_of_place p some box inside c e.edge (in_box_told c e.edge h) k
        beside l (inr (inl k)) = left_of_place p some box inside c e.edge (in_box_told c e.edge h) k
        beside l (inr (inr (inl k))) = above_place p some box inside c e.edge (in_box_told c e.edge h) k
        beside l (inr (inr (inr k))) = absurd (l k)

        by : (low : Bool) → int_lt c.top box.bottom ≡ low
            → cond (is_below e.edge.a e.edge.b p) (n e.count) (pos 0) ≡ pos 0 +ℤ (n e.count *ℤ (weight e.edge.a -ℤ weight e.edge.b))
        by true f =
            ap (λ b. cond b (n e.count) (pos 0)) (below_place p some box inside c e.edge (in_box_told c e.edge h) (lt_tells c.top box.bottom f))
            ∙ (passing (n e.count) p.x (pos p.q *ℤ e.edge.a.x) (pos p.q *ℤ e.edge.b.x) (product_monotone (pos p.q) e.edge.a.x e.edge.b.x (omega (arith, ints)) rightward)
            ∙ ap (λ z. pos 0 +ℤ z)
            (sym (all_under (is_under boxes box e.edge.a) (is_under boxes box e.edge.b) (int_le (pos p.q *ℤ e.edge.a.x) p.x) (int_le (pos p.q *ℤ e.edge.b.x) p.x) (under e.edge.a ends.0 ∙ f) (under e.edge.b ends.1 ∙ f))))
        by false f =
            ap (λ b. cond b (n e.count) (pos 0)) (beside (λ l. not_less c.top box.bottom l (lt_tells_not c.top box.bottom f)) other)
            ∙ (added (pos 0) (pos 0) (n e.count) refl
            ∙ ap (λ z. pos 0 +ℤ z)
            (sym (none_under (is_under boxes box e.edge.a) (is_under boxes box e.edge.b) (int_le (pos p.q *ℤ e.edge.a.x) p.x) (int_le (pos p.q *ℤ e.edge.b.x) p.x) (under e.edge.a ends.0 ∙ f) (under e.edge.b ends.1 ∙ f))))
          where
            not_less : (x y : ℤ) → x <ℤ y → y ≤ℤ x → ⊥
            not_less x y l m = omega (arith, ints)

    -- the count of an edge below the place: that in the box, and what the ends tell
    by_box : cond (is_below e.edge.a e.edge.b p) (n e.count) (pos 0)
        ≡ (if in_box box e.edge then cond (is_below e.edge.a e.edge.b p) (n e.count) (pos 0) else pos 0) +ℤ (n e.count *ℤ (weight e.edge.a -ℤ weight e.edge.b))
    by_box = by (in_box box e.edge) refl (here_or_elsewhere boxes es groups box at e here)
      where
        by : (within : Bool) → in_box box e.edge ≡ within → (in_box box e.edge ≡ true) ⊎ IsElsewhere boxes box e.edge
            → cond (is_below e.edge.a e.edge.b p) (n e.count) (pos 0)
            ≡ (if within then cond (is_below e.edge.a e.edge.b p) (n e.count) (pos 0) else pos 0) +ℤ (n e.count *ℤ (weight e.edge.a -ℤ weight e.edge.b))
        by true f w = in_own_box f (is_below e.edge.a e.edge.b p)
        by false f (inl g) = absurd (false≢true (sym f ∙ g))
        by false f (inr (c, there, other, h)) = in_other_box c there other h

  module _ (n : Count → ℤ) where
    abbrev counted : Entry Count → ℤ
    counted e = cond (is_below e.edge.a e.edge.b p) (n e.count) (pos 0)

    abbrev inner : Entry Count → ℤ
    inner e = if in_box box e.edge then counted e else pos 0

    abbrev outer : Entry Count → ℤ
    outer e = n e.count *ℤ (weight e.edge.a -ℤ weight e.edge.b)

    sum_in_part : IsBalancedForAll n es → total counted (part box es) ≡ total counted es
    sum_in_part balanced =
        total_filter counted (λ e. in_box box e.edge) es
        ∙ sym
        (total_pointwise_on counted (λ e. inner e +ℤ outer e) es (All-weaker (Contains es) (λ e. counted e ≡ inner e +ℤ outer e) (by_box n) es (All-contains_itself es))
        ∙ (total_sum inner outer es ∙ nothing (total inner es) (total outer es) (balanced weight)))
      where
        nothing : (x y : ℤ) → y ≡ pos 0 → x +ℤ y ≡ x
        nothing x y e = omega (arith, ints)

  pub winding_alone : IsBalancedMap es → winding (part box es) p ≡ winding es p
  winding_alone balanced =
      same_count (winding (part box es) p) (winding es p) (sum_in_part (λ c. c.subject) (balanced_subject es balanced)) (sum_in_part (λ c. c.clip) (balanced_clip es balanced))
