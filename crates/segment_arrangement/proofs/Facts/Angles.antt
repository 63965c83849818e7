-- The order by angle of edges that start at one point, and what the live edges tell there.
use Rattle.std.proofs.Common.{◌≡◌, ◌≢◌, Bool, true, false, List, [], ◌∷◌, Contains, ◌⊎◌, inl, inr, ℤ, pos, ◌+ℤ◌, ◌-ℤ◌, ◌*ℤ◌, neg_ℤ, ◌≤ℤ◌, ◌<ℤ◌, int_lt, get_or, refl, sym, ap, ◌∙◌, arith}
use Rattle.std.specs.declared.cmp.Ordering.{Ordering}
use Rattle.std.specs.declared.cmp.Ordering.TheVariants.{Less, Equal, Greater}
use Rattle.std.specs.Ordering.{int_cmp, ordering_reverse}
use Rattle.std.proofs.lemmas.Int.{ints}
use Rattle.std.proofs.lemmas.Bool.{false≢true, and_parts, and_from, false_from_ne_true}
use Rattle.std.proofs.lemmas.List.Elements.{All-contains, All-contains_itself}
use Rattle.std.proofs.Math.IntN.{zero-*ℤ}
use Rattle.plane_base.specs.Plane.{Point, Edge, turn, is_before, is_below, point_order}
use Rattle.plane_base.specs.Counts.{Count, Entry}
use Rattle.plane_base.specs.Segments.{parted, order_against, angle_order, column_order}
use Rattle.plane_base.specs.ColumnLaws.{IsLive}
use Rattle.plane_base.proofs.Facts.Numbers.Products.{product_positive, product_not_negative, factor_positive}
use Rattle.plane_base.proofs.Facts.Numbers.Polynomials.{var, minus, plus, times, by_ring}
use Rattle.plane_base.proofs.Facts.Points.Turns.{coordinates, place, a_turn, turn_swap_last, turn_there_and_back}
use Rattle.plane_base.proofs.Facts.Points.Orders.{int_less, int_equal, int_cmp_less, point_total, point_equal, point_itself, point_less, point_less_by_x, before_is_less, less_from_greater}
use Rattle.plane_base.proofs.Facts.Crossings.Parted.{AreParted, parted_tells}
use Rattle.plane_base.proofs.Facts.Columns.Order.{inside_from, before_of_order, same_edge, order_is_lawful}
use Rattle.segment_arrangement.specs.Columns.{is_live}
use Rattle.segment_arrangement.specs.SideLaws.{IsArrangement}
use Rattle.segment_arrangement.specs.FanLaws.{whole, AngleIsLawful, IsLiveList, LiveListTells}
use Rattle.segment_arrangement.proofs.Facts.ColumnPlaces.{lt_holds, lt_tells, live_tells, live_holds}
use Rattle.segment_arrangement.proofs.Facts.EndsAlong.{by_start}
use Rattle.segment_arrangement.proofs.Facts.ConstantSides.{parted_from_others}
use Rattle.segment_arrangement.proofs.Facts.LastBelow.{winding_is_last_upper}
use Rattle.segment_arrangement.proofs.Facts.Fans.{below_whole, turn_under, starts_above, wide_live}

-- ---- the order by angle

-- at a common start it is the order at the column
by_column : (s t : Edge) → s.a ≡ t.a → column_order s t ≡ angle_order s t
by_column s t e = ap (λ o. by_start s t o) (ap (λ p. point_order s.a p) (sym e) ∙ point_itself s.a)

angle_reversed : (s t : Edge) → s.a ≡ t.a → angle_order t s ≡ ordering_reverse (angle_order s t)
angle_reversed s t e = sym (by_column t s (sym e)) ∙ (order_is_lawful.reversed s t ∙ ap ordering_reverse (by_column s t e))

angle_decided : (s t : Edge) → s.a ≡ t.a → is_before s.a s.b ≡ true → is_before t.a t.b ≡ true → parted s t ≡ true → s ≢ t → angle_order s t ≢ Equal
angle_decided s t together ds dt e differ level = by (point_order t.b s.b) refl
  where
    parts : AreParted s t
    parts = parted_tells s t e

    clash : {b : Bool} → b ≡ false → b ≡ true → ⊥
    clash f g = false≢true (sym f ∙ g)

    flat : turn s.a s.b t.b ≡ pos 0
    flat = sym (int_equal (pos 0) (turn s.a s.b t.b) level)

    back : turn t.a t.b s.b ≡ pos 0
    back = turn_swap_last t.a t.b s.b ∙ ap neg_ℤ (ap (λ p. turn p s.b t.b) (sym together) ∙ flat)

    by : (o : Ordering) → point_order t.b s.b ≡ o → ⊥
    by Less f = clash parts.second_end (inside_from t.b s flat (ap (λ p. is_before p t.b) together ∙ dt) (before_of_order t.b s.b f))
    by Equal f = differ (same_edge s t together (sym (point_equal t.b s.b f)))
    by Greater f = clash parts.own_second (inside_from s.b t back (ap (λ p. is_before p s.b) (sym together) ∙ ds) (before_of_order s.b t.b (less_from_greater point_total t.b s.b f)))

-- three ends seen from one point
pub fan_of_three : (v a b c : Point) → (b.x -ℤ v.x) *ℤ turn v a c ≡ ((a.x -ℤ v.x) *ℤ turn v b c) +ℤ ((c.x -ℤ v.x) *ℤ turn v a b)
fan_of_three v a b c =
    by_ring (coordinates (v ∷ a ∷ b ∷ c ∷ []) [])
    (times (minus (var 4) (var 0)) (a_turn (place 0) (place 1) (place 3)))
    (plus (times (minus (var 2) (var 0)) (a_turn (place 0) (place 2) (place 3))) (times (minus (var 6) (var 0)) (a_turn (place 0) (place 1) (place 2))))
    refl

-- what has something of a fan to its left isn't vertical
pub wide_below : (v a b : Point) → is_before v a ≡ true → is_before v b ≡ true → pos 0 <ℤ turn v a b → pos 0 <ℤ (a.x -ℤ v.x)
wide_below v a b da db left = by (point_less v a (before_is_less v a da)) (rightward (point_less v b (before_is_less v b db)))
  where
    rightward : (v.x <ℤ b.x) ⊎ ((v.x ≡ b.x) × (v.y <ℤ b.y)) → pos 0 ≤ℤ (b.x -ℤ v.x)
    rightward (inl h) = omega (arith, ints)
    rightward (inr h) = omega (arith, ints)

    by : (v.x <ℤ a.x) ⊎ ((v.x ≡ a.x) × (v.y <ℤ a.y)) → pos 0 ≤ℤ (b.x -ℤ v.x) → pos 0 <ℤ (a.x -ℤ v.x)
    by (inl h) r = omega (arith, ints)
    by (inr h) r =
        absurd (clash ((a.x -ℤ v.x) *ℤ (b.y -ℤ v.y)) ((a.y -ℤ v.y) *ℤ (b.x -ℤ v.x)) left (ap (λ z. z *ℤ (b.y -ℤ v.y)) (none h.0) ∙ zero-*ℤ (b.y -ℤ v.y)) (product_not_negative (a.y -ℤ v.y) (b.x -ℤ v.x) (omega (arith, ints)) r))
      where
        none : v.x ≡ a.x → a.x -ℤ v.x ≡ pos 0
        none e = omega (arith, ints)

        clash : (m n : ℤ) → pos 0 <ℤ (m -ℤ n) → m ≡ pos 0 → pos 0 ≤ℤ n → ⊥
        clash m n l e k = absurd (omega (arith, ints))

pub left_through : (v a b c : Point) → is_before v a ≡ true → is_before v b ≡ true → is_before v c ≡ true → pos 0 <ℤ turn v a b → pos 0 <ℤ turn v b c → pos 0 <ℤ turn v a c
left_through v a b c da db dc first second =
    let wa = wide_below v a b da db first in
    let wb = wide_below v b c db dc second in
    factor_positive (b.x -ℤ v.x) (turn v a c) wb
    (sum _ _ _ (fan_of_three v a b c) (product_positive (a.x -ℤ v.x) (turn v b c) wa second) (product_not_negative (c.x -ℤ v.x) (turn v a b) (rightward (point_less v c (before_is_less v c dc))) (weak _ first)))
  where
    weak : (z : ℤ) → pos 0 <ℤ z → pos 0 ≤ℤ z
    weak z l = omega (arith, ints)

    sum : (x y z : ℤ) → x ≡ y +ℤ z → pos 0 <ℤ y → pos 0 ≤ℤ z → pos 0 <ℤ x
    sum x y z e l m = omega (arith, ints)

    rightward : (v.x <ℤ c.x) ⊎ ((v.x ≡ c.x) × (v.y <ℤ c.y)) → pos 0 ≤ℤ (c.x -ℤ v.x)
    rightward (inl h) = omega (arith, ints)
    rightward (inr h) = omega (arith, ints)

pub angle_is_lawful : AngleIsLawful
angle_is_lawful = record {
  reversed = angle_reversed;
  decided = angle_decided;
  through = λ s t u st tu ds dt du first second.
      int_cmp_less (pos 0) (turn s.a s.b u.b)
      (left_through s.a s.b t.b u.b ds (ap (λ p. is_before p t.b) st ∙ dt) (ap (λ p. is_before p u.b) (st ∙ tu) ∙ du) (int_less (pos 0) (turn s.a s.b t.b) first)
      (int_less (pos 0) (turn s.a t.b u.b) (ap (λ p. int_cmp (pos 0) (turn p t.b u.b)) st ∙ second)));
}

-- ---- the live edges

-- what lies below a point starts before it
pub below_starts_before : (v : Point) (t : Edge) → IsLive v.x t → pos 0 <ℤ turn t.a t.b v → point_order t.a v ≡ Less
below_starts_before v t live over = by (point_order t.a v) refl
  where
    level : (z : ℤ) {A : Type 0} → z ≡ pos 0 → pos 0 <ℤ z → A
    level z e l = absurd (omega (arith, ints))

    under : (z : ℤ) {A : Type 0} → z <ℤ pos 0 → pos 0 <ℤ z → A
    under z m l = absurd (omega (arith, ints))

    by : (o : Ordering) → point_order t.a v ≡ o → o ≡ Less
    by Less e = refl
    by Equal e = level _ (ap (λ p. turn t.a t.b p) (sym (point_equal t.a v e)) ∙ turn_there_and_back t.a t.b) over
    by Greater e = let h = starts_above t v live e in under _ (turn_under t v (wide_live v.x t live) h.0 h.1) over

module _ (es list : List (Entry Count)) (v : Point) (is : IsLiveList es v list) where
  -- an edge below the point is found in the list
  found_below : (f : Entry Count) → Contains es f → is_below f.edge.a f.edge.b (whole v) ≡ true → Contains list f × (order_against f.edge v ≡ Less)
  found_below f here t =
      let h = and_parts (is_live v.x f.edge) (int_lt (pos 0) (turn f.edge.a f.edge.b v)) (sym (below_whole v f.edge) ∙ t) in
      let live = live_tells v.x f.edge h.0 in
      let over = lt_tells (pos 0) (turn f.edge.a f.edge.b v) h.1 in
      (is.complete f here live (below_starts_before v f.edge live over), int_cmp_less (pos 0) (turn f.edge.a f.edge.b v) over)

  listed : (e : Entry Count) → Contains list e → Contains es e × IsLive v.x e.edge × (point_order e.edge.a v ≡ Less)
  listed e here = All-contains (λ e. Contains es e × IsLive v.x e.edge × (point_order e.edge.a v ≡ Less)) list e is.sound here

  below_of_listed : (e : Entry Count) → Contains list e → order_against e.edge v ≡ Less → is_below e.edge.a e.edge.b (whole v) ≡ true
  below_of_listed e here l =
      below_whole v e.edge
      ∙ and_from (is_live v.x e.edge) (int_lt (pos 0) (turn e.edge.a e.edge.b v)) (live_holds v.x e.edge (listed e here).1) (lt_holds (pos 0) (turn e.edge.a e.edge.b v) (int_less (pos 0) (turn e.edge.a e.edge.b v) l))

never_on : (es : List (Entry Count)) (e f : Entry Count) → IsArrangement es → Contains es e → Contains es f → IsLive e.edge.a.x f.edge → point_order f.edge.a e.edge.a ≡ Less → order_against f.edge e.edge.a ≢ Equal
never_on es e f arranged here there live before level =
    false≢true (sym (parted_tells f.edge e.edge (All-contains (λ g. f.edge ≢ g.edge → parted f.edge g.edge ≡ true) es e (parted_from_others es arranged f there) here differ)).first_end
    ∙ inside_from e.edge.a f.edge (sym (int_equal (pos 0) (turn f.edge.a f.edge.b e.edge.a) level)) (before_of_order f.edge.a e.edge.a before) (before_of_order e.edge.a f.edge.b (point_less_by_x e.edge.a f.edge.b live.1)))
  where
    clash : Equal ≡ Less → ⊥
    clash e = absurd (cc)

    differ : f.edge ≢ e.edge
    differ same = clash (sym (point_itself e.edge.a) ∙ (ap (λ s. point_order s.a e.edge.a) (sym same) ∙ before))

pub live_list_tells : LiveListTells
live_list_tells = record {
  of_last = λ es list v e arranged is h.
      winding_is_last_upper.of_last es e (whole v) arranged (omega arith)
      (record {
        here = (listed es list v is e h.here).0;
        below = below_of_listed es list v is e h.here h.below;
        last = λ f there t differ. let k = found_below es list v is f there t in h.last f k.0 k.1 differ;
      });
  of_none = λ es list v is none.
      winding_is_last_upper.of_none es (whole v)
      (λ i d l. let f : Entry Count = get_or es i d in false_from_ne_true (is_below f.edge.a f.edge.b (whole v)) (λ t. let h = found_below es list v is f (All-contains_itself es i d l) t in none f h.0 h.1));
  never_on = never_on;
}
