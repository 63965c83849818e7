-- The running sums along a fan, and the live list at a point at which edges start.
use Rattle.std.proofs.Common.{◌≡◌, ℕ, zero, suc, ◌+◌, ◌<◌, Bool, true, false, cond, if◌then◌else◌, ◌&&◌, List, [], ◌∷◌, ◌++◌, length, take, filter, All, AllPairs, Contains, ℤ, pos, ◌+ℤ◌, neg_ℤ, ◌≤ℤ◌, ◌<ℤ◌, int_lt, get_or, add-one, refl, sym, ap, ap₂, ◌∙◌, arith}
use Rattle.std.specs.declared.cmp.Ordering.TheVariants.{Less}
use Rattle.std.specs.Ordering.{is_lt}
use Rattle.std.proofs.lemmas.Int.{ints}
use Rattle.std.proofs.lemmas.List.Elements.{All-head, All-tail, All-weaker, All-contains_itself, All-filter, filter_passes}
use Rattle.std.proofs.lemmas.List.Sorted.{All-permutation}
use Rattle.std.proofs.Math.Seq.{take-suc}
use Rattle.plane_base.specs.Plane.{Point, Edge, turn, point_order}
use Rattle.plane_base.specs.Counts.{Count, Entry, boolean}
use Rattle.plane_base.specs.Windings.{winding}
use Rattle.plane_base.specs.Segments.{angle_order}
use Rattle.plane_base.specs.Totals.{total}
use Rattle.plane_base.proofs.Facts.Points.Turns.{turn_swap_last, turn_end_twice}
use Rattle.plane_base.proofs.Facts.Points.Orders.{is_equal, int_less, point_equal}
use Rattle.plane_base.proofs.Facts.Maps.Normal.{AllPairs-head, AllPairs-tail}
use Rattle.plane_base.proofs.Facts.Lists.Totals.{total_append, total_filter, total_pointwise, total_permutation, total_zero_on}
use Rattle.segment_arrangement.specs.Columns.{sum_of}
use Rattle.segment_arrangement.specs.EdgeSides.{lower_side, upper_side}
use Rattle.segment_arrangement.specs.SideLaws.{IsArrangement}
use Rattle.segment_arrangement.specs.FanLaws.{whole, sum_of_counts, starts_at, IsFan, FanSides}
use Rattle.segment_arrangement.proofs.Facts.ColumnPlaces.{lt_fails}
use Rattle.segment_arrangement.proofs.Facts.AlongKey.{same_count}
use Rattle.segment_arrangement.proofs.Facts.Fans.{in_fan, angle_is, lower_in_fan}

-- ---- along a fan

-- the order by angle, turned round
not_back : (s t : Edge) → s.a ≡ t.a → angle_order s t ≡ Less → is_lt (angle_order t s) ≡ false
not_back s t together e =
    angle_is t s ∙ lt_fails (pos 0) (turn t.a t.b s.b) (under _ _ turned (int_less (pos 0) (turn s.a s.b t.b) e))
  where
    turned : turn t.a t.b s.b ≡ neg_ℤ (turn s.a s.b t.b)
    turned = turn_swap_last t.a t.b s.b ∙ ap (λ p. neg_ℤ (turn p s.b t.b)) (sym together)

    under : (y z : ℤ) → y ≡ neg_ℤ z → pos 0 <ℤ z → y ≤ℤ pos 0
    under y z f l = omega (arith, ints)

not_itself : (s : Edge) → is_lt (angle_order s s) ≡ false
not_itself s = angle_is s s ∙ ap (λ z. int_lt (pos 0) z) (turn_end_twice s.a s.b)

module _ (v : Point) (n : Count → ℤ) where
  sum_before : (fan : List (Entry Count)) (i : ℕ) (d : Entry Count) → All (λ f. f.edge.a ≡ v) fan → AllPairs (λ e f. angle_order e.edge f.edge ≡ Less) fan → i < length fan
      → total (λ f. cond (is_lt (angle_order f.edge (get_or fan i d).edge)) (n f.count) (pos 0)) fan ≡ total (λ f. n f.count) (take i fan)
  sum_before [] i d starts rising inside = absurd (omega arith)
  sum_before (x ∷ fan) zero d starts rising inside =
      none _ _ (ap (λ b. cond b (n x.count) (pos 0)) (not_itself x.edge))
      (total_zero_on (λ f. cond (is_lt (angle_order f.edge x.edge)) (n f.count) (pos 0)) fan
      (λ k e l. ap (λ b. cond b (n (get_or fan k e).count) (pos 0)) (not_back x.edge (get_or fan k e).edge (here ∙ sym (later k e l)) (AllPairs-head (λ e f. angle_order e.edge f.edge ≡ Less) x fan rising k e l))))
    where
      here : x.edge.a ≡ v
      here = All-head (λ f. f.edge.a ≡ v) x fan starts

      later : All (λ f. f.edge.a ≡ v) fan
      later = All-tail (λ f. f.edge.a ≡ v) x fan starts

      none : (y z : ℤ) → y ≡ pos 0 → z ≡ pos 0 → y +ℤ z ≡ pos 0
      none y z e f = omega (arith, ints)
  sum_before (x ∷ fan) (suc i) d starts rising inside =
      ap₂ (λ y z. y +ℤ z)
      (ap (λ o. cond (is_lt o) (n x.count) (pos 0)) (AllPairs-head (λ e f. angle_order e.edge f.edge ≡ Less) x fan rising i d (omega arith)))
      (sum_before fan i d (All-tail (λ f. f.edge.a ≡ v) x fan starts) (AllPairs-tail (λ e f. angle_order e.edge f.edge ≡ Less) x fan rising) (omega arith))

module _ (es fan : List (Entry Count)) (v : Point) (arranged : IsArrangement es) (is : IsFan es v fan) where
  in_map : All (Contains es) fan
  in_map = All-permutation (Contains es) (filter (starts_at v) es) fan is.all (All-filter (starts_at v) (Contains es) es (All-contains_itself es))

  at_point : All (λ f. f.edge.a ≡ v) fan
  at_point =
      All-permutation (λ f. f.edge.a ≡ v) (filter (starts_at v) es) fan is.all
      (All-weaker (λ f. starts_at v f ≡ true) (λ f. f.edge.a ≡ v) (λ f e. point_equal f.edge.a v (is_equal (point_order f.edge.a v) e)) (filter (starts_at v) es) (filter_passes (starts_at v) es))

  module _ (i : ℕ) (d : Entry Count) (inside : i < length fan) where
    fan_part : (n : Count → ℤ) → total (λ e. cond (in_fan v (get_or fan i d).edge e.edge) (n e.count) (pos 0)) es ≡ total (λ f. n f.count) (take i fan)
    fan_part n =
        total_pointwise (λ e. cond (in_fan v (get_or fan i d).edge e.edge) (n e.count) (pos 0)) (λ e. (if starts_at v e then cond (is_lt (angle_order e.edge (get_or fan i d).edge)) (n e.count) (pos 0) else pos 0)) es
        (λ e. split (starts_at v e) (is_lt (angle_order e.edge (get_or fan i d).edge)) (n e.count))
        ∙ (sym (total_filter (λ e. cond (is_lt (angle_order e.edge (get_or fan i d).edge)) (n e.count) (pos 0)) (starts_at v) es)
        ∙ (sym (total_permutation (λ e. cond (is_lt (angle_order e.edge (get_or fan i d).edge)) (n e.count) (pos 0)) (filter (starts_at v) es) fan is.all)
        ∙ sum_before v n fan i d at_point is.rising inside))
      where
        split : (b c : Bool) (m : ℤ) → cond (b && c) m (pos 0) ≡ (if b then cond c m (pos 0) else pos 0)
        split true c m = refl
        split false c m = refl

    running : lower_side es (get_or fan i d).edge ≡ boolean.join (winding es (whole v)) (sum_of_counts (take i fan))
    running =
        lower_in_fan es arranged (get_or fan i d) (in_map i d inside) v (at_point i d inside)
        ∙ ap (λ c. boolean.join (winding es (whole v)) c) (same_count (sum_of (in_fan v (get_or fan i d).edge) es) (sum_of_counts (take i fan)) (fan_part (λ c. c.subject)) (fan_part (λ c. c.clip)))

  first_side : (d : Entry Count) → 0 < length fan → lower_side es (get_or fan 0 d).edge ≡ winding es (whole v)
  first_side d inside = running 0 d inside ∙ same_count (boolean.join (winding es (whole v)) (sum_of_counts [])) (winding es (whole v)) (alone (winding es (whole v)).subject) (alone (winding es (whole v)).clip)
    where
      alone : (y : ℤ) → y +ℤ pos 0 ≡ y
      alone y = omega (arith, ints)

  next_side : (i : ℕ) (d : Entry Count) → i + 1 < length fan → lower_side es (get_or fan (i + 1) d).edge ≡ upper_side es (get_or fan i d)
  next_side i d inside =
      running (i + 1) d inside
      ∙ (ap (λ c. boolean.join (winding es (whole v)) c) (more (get_or fan i d) (rw add-one (take-suc fan i d (omega arith))))
      ∙ (regrouped (winding es (whole v)) (sum_of_counts (take i fan)) (get_or fan i d).count
      ∙ ap (λ c. boolean.join c (get_or fan i d).count) (sym (running i d (omega arith)))))
    where
      one : (y z m : ℤ) → y ≡ z +ℤ (m +ℤ pos 0) → y ≡ z +ℤ m
      one y z m e = omega (arith, ints)

      more : (e : Entry Count) → take (i + 1) fan ≡ take i fan ++ e ∷ [] → sum_of_counts (take (i + 1) fan) ≡ boolean.join (sum_of_counts (take i fan)) e.count
      more e f =
          same_count (sum_of_counts (take (i + 1) fan)) (boolean.join (sum_of_counts (take i fan)) e.count)
          (one (total (λ f. f.count.subject) (take (i + 1) fan)) (total (λ f. f.count.subject) (take i fan)) e.count.subject (ap (λ fs. total (λ f. f.count.subject) fs) f ∙ total_append (λ f. f.count.subject) (take i fan) (e ∷ [])))
          (one (total (λ f. f.count.clip) (take (i + 1) fan)) (total (λ f. f.count.clip) (take i fan)) e.count.clip (ap (λ fs. total (λ f. f.count.clip) fs) f ∙ total_append (λ f. f.count.clip) (take i fan) (e ∷ [])))

      regrouped : (b c e : Count) → boolean.join b (boolean.join c e) ≡ boolean.join (boolean.join b c) e
      regrouped b c e = same_count (boolean.join b (boolean.join c e)) (boolean.join (boolean.join b c) e) (moved b.subject c.subject e.subject) (moved b.clip c.clip e.clip)
        where
          moved : (x y z : ℤ) → x +ℤ (y +ℤ z) ≡ (x +ℤ y) +ℤ z
          moved x y z = omega (arith, ints)

pub fan_sides : FanSides
fan_sides = record {
  first = λ es fan v d arranged is inside. first_side es fan v arranged is d inside;
  next = λ es fan v i d arranged is inside. next_side es fan v arranged is i d inside;
  each = λ es fan v i d arranged is inside. running es fan v arranged is i d inside;
}
