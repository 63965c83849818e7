-- Of horizontal and vertical edges at most two start at one point: a vertical one, and in the order of edges a horizontal one after it.
use Rattle.std.proofs.Common.{◌≡◌, ◌≢◌, ℕ, zero, suc, ◌+◌, ◌-◌, ◌<◌, ◌≤◌, ◌⊎◌, inl, inr, ℤ, pos, ◌-ℤ◌, ◌*ℤ◌, ◌<ℤ◌, ◌≤ℤ◌, true, false, List, [], ◌∷◌, length, map, drop, get_or, filter, All, AllPairs, Contains, IsPermutation, refl, sym, ap, subst, ◌∙◌, arith}
use Rattle.std.specs.Cmp.{int_cmp_is}
use Rattle.std.specs.declared.cmp.Ordering.TheVariants.{Less, Equal}
use Rattle.std.proofs.lemmas.Bool.{cases_lt}
use Rattle.std.proofs.lemmas.Int.{ints}
use Rattle.std.proofs.lemmas.List.{get_or-take, get_or-drop, length-take, length-drop}
use Rattle.std.proofs.lemmas.List.Elements.{All-nil, All-contains, All-contains_itself, All-filter, filter_passes}
use Rattle.std.proofs.lemmas.List.Kept.{AllPairs-filter}
use Rattle.std.proofs.lemmas.List.Sorted.{IsPermutation-swap}
use Rattle.std.proofs.Math.IntN.{zero-*ℤ, *ℤ-zero}
use Rattle.plane_base.specs.Plane.{Point, Edge, turn, point_order, edge_order, is_before}
use Rattle.plane_base.specs.Counts.{Count, Entry, boolean}
use Rattle.plane_base.specs.Segments.{parted, angle_order}
use Rattle.plane_base.specs.Windings.{winding}
use Rattle.plane_base.proofs.Facts.Maps.Normal.{AllPairs-nil, AllPairs-cons}
use Rattle.plane_base.proofs.Facts.Points.Orders.{edge_total, point_total, is_equal, point_less, point_less_x, point_equal, less_apart, less_then, before_is_less, int_cmp_less}
use Rattle.segment_split.specs.Kinds.{count_fits}
use Rattle.segment_split.specs.LineLaws.{AllRectilinear}
use Rattle.segment_split.specs.Passes.{edges_of}
use Rattle.segment_arrangement.specs.EdgeSides.{lower_side, upper_side}
use Rattle.segment_arrangement.specs.FanLaws.{whole, starts_at, IsFan}
use Rattle.segment_arrangement.specs.SideLaws.{IsArrangement}
use Rattle.segment_arrangement.specs.SweepViews.{AreStartsAt}
use Rattle.segment_arrangement.proofs.Facts.Angles.{angle_is_lawful}
use Rattle.segment_arrangement.proofs.Facts.ConstantSides.{parted_from_others, directed_entry}
use Rattle.segment_arrangement.proofs.Facts.FanSums.{fan_sides}
use Rattle.segment_arrangement.proofs.RectilinearSides.Order.{horizontal_against}
use Rattle.segment_arrangement.proofs.RectilinearSides.Rows.{wide_is_horizontal, never_beside}
use Rattle.segment_arrangement.proofs.Sweeps.Seams.{at_place}

-- a forward edge isn't vertical or rises
wide_or_tall : (s : Edge) → is_before s.a s.b ≡ true → (s.a.x <ℤ s.b.x) ⊎ ((s.a.x ≡ s.b.x) × (s.a.y <ℤ s.b.y))
wide_or_tall s directed = point_less s.a s.b (before_is_less s.a s.b directed)

-- nothing turns between two vertical edges from one point
vertical_turn : (s t : Edge) → s.a ≡ t.a → s.a.x ≡ s.b.x → t.a.x ≡ t.b.x → angle_order s t ≡ Equal
vertical_turn s t same up other =
    sym (int_cmp_is (pos 0) (turn s.a s.b t.b) Equal (sym (flat ((s.b.x -ℤ s.a.x) *ℤ (t.b.y -ℤ s.a.y)) ((s.b.y -ℤ s.a.y) *ℤ (t.b.x -ℤ s.a.x)) first second)))
  where
    none : (y z : ℤ) → y ≡ z → z -ℤ y ≡ pos 0
    none y z e = omega (arith, ints)

    first : (s.b.x -ℤ s.a.x) *ℤ (t.b.y -ℤ s.a.y) ≡ pos 0
    first = ap (λ z. z *ℤ (t.b.y -ℤ s.a.y)) (none s.a.x s.b.x up) ∙ zero-*ℤ (t.b.y -ℤ s.a.y)

    second : (s.b.y -ℤ s.a.y) *ℤ (t.b.x -ℤ s.a.x) ≡ pos 0
    second = ap (λ z. (s.b.y -ℤ s.a.y) *ℤ z) (none s.a.x t.b.x (ap (λ p. p.x) same ∙ other)) ∙ *ℤ-zero (s.b.y -ℤ s.a.y)

    flat : (m n : ℤ) → m ≡ pos 0 → n ≡ pos 0 → m -ℤ n ≡ pos 0
    flat m n e f = omega (arith, ints)

module _ (es : List (Entry Count)) (arranged : IsArrangement es) (all : AllRectilinear (edges_of es)) (v : Point) (e f : Entry Count) (here : Contains es e) (there : Contains es f) (start : e.edge.a ≡ v) (other : f.edge.a ≡ v) (before : edge_order e.edge f.edge ≡ Less) where
  differ : e.edge ≢ f.edge
  differ = less_apart edge_total e.edge f.edge before

  together : e.edge.a ≡ f.edge.a
  together = start ∙ sym other

  -- the one before doesn't reach farther
  no_farther : e.edge.b.x ≤ℤ f.edge.b.x
  no_farther = by (less_then (point_order e.edge.a f.edge.a) (point_order e.edge.b f.edge.b) before)
    where
      by : (point_order e.edge.a f.edge.a ≡ Less) ⊎ ((point_order e.edge.a f.edge.a ≡ Equal) × (point_order e.edge.b f.edge.b ≡ Less)) → e.edge.b.x ≤ℤ f.edge.b.x
      by (inl l) = absurd (less_apart point_total e.edge.a f.edge.a l together)
      by (inr h) = point_less_x e.edge.b f.edge.b h.1

  pub vertical_first : (e.edge.a.x ≡ e.edge.b.x) × (e.edge.a.y <ℤ e.edge.b.y)
  vertical_first = by (wide_or_tall e.edge (directed_entry es arranged e here))
    where
      by : (e.edge.a.x <ℤ e.edge.b.x) ⊎ ((e.edge.a.x ≡ e.edge.b.x) × (e.edge.a.y <ℤ e.edge.b.y)) → (e.edge.a.x ≡ e.edge.b.x) × (e.edge.a.y <ℤ e.edge.b.y)
      by (inl wide) =
          let x = ap (λ p. p.x) together in
          let l = no_farther in
          absurd (never_beside es all arranged e f e.edge.a.x here there (omega (arith, ints), wide) (omega (arith, ints, x), omega (arith, ints, wide, l)) differ (ap (λ p. p.y) together))
      by (inr tall) = tall

  pub wide_second : f.edge.a.x <ℤ f.edge.b.x
  wide_second = by (wide_or_tall f.edge (directed_entry es arranged f there))
    where
      by : (f.edge.a.x <ℤ f.edge.b.x) ⊎ ((f.edge.a.x ≡ f.edge.b.x) × (f.edge.a.y <ℤ f.edge.b.y)) → f.edge.a.x <ℤ f.edge.b.x
      by (inl wide) = wide
      by (inr tall) =
          absurd
          (angle_is_lawful.decided e.edge f.edge together (directed_entry es arranged e here) (directed_entry es arranged f there)
          (All-contains (λ g. e.edge ≢ g.edge → parted e.edge g.edge ≡ true) es f (parted_from_others es arranged e here) there differ) differ
          (vertical_turn e.edge f.edge together vertical_first.0 tall.0))

  module _ (only : filter (starts_at v) es ≡ e ∷ f ∷ []) where
    is_fan : IsFan es v (f ∷ e ∷ [])
    is_fan = record {
      all = subst (λ xs. IsPermutation xs (f ∷ e ∷ [])) (sym only) (IsPermutation-swap (e ∷ f ∷ []) (f ∷ e ∷ []) 0 1 (omega arith) (omega arith) refl);
      rising =
          AllPairs-cons (λ e f. angle_order e.edge f.edge ≡ Less) f (e ∷ []) (single turns)
          (AllPairs-cons (λ e f. angle_order e.edge f.edge ≡ Less) e [] (All-nil (λ g. angle_order e.edge g.edge ≡ Less)) (AllPairs-nil (λ e f. angle_order e.edge f.edge ≡ Less)));
    }
      where
        turns : angle_order f.edge e.edge ≡ Less
        turns =
            let y = ap (λ p. p.y) together in
            let up = vertical_first.1 in
            horizontal_against f.edge (wide_is_horizontal es all f there wide_second) e.edge.b ∙ int_cmp_less f.edge.a.y e.edge.b.y (omega (arith, ints, y, up))

        single : angle_order f.edge e.edge ≡ Less → All (λ g. angle_order f.edge g.edge ≡ Less) (e ∷ [])
        single h = λ i d l. let zeroth : i ≡ 0 = omega (arith, l) in rw zeroth h

    -- the horizontal one has below it what lies below the point, and the vertical one what lies above the horizontal one
    pub lower_of_horizontal : lower_side es f.edge ≡ winding es (whole v)
    lower_of_horizontal = fan_sides.first es (f ∷ e ∷ []) v f arranged is_fan (omega arith)

    pub lower_of_vertical : lower_side es e.edge ≡ upper_side es f
    lower_of_vertical = fan_sides.next es (f ∷ e ∷ []) v 0 f arranged is_fan (omega arith)

-- so no more than two stand side by side in the list
pub two_at_most : (es : List (Entry Count)) → IsArrangement es → AllRectilinear (edges_of es) → (v : Point) (from to : ℕ) (d : Entry Count) → from < to → to ≤ length es → AreStartsAt es v from to → to ≤ from + 2
two_at_most es arranged all v from to d some within starts = by (cases_lt (from + 2) to)
  where
    start : (i : ℕ) → from + i < to → (get_or es (from + i) d).edge.a ≡ v
    start i l =
        ap (λ e. e.edge.a) (sym (get_or-take (to - from) (drop from es) i d (omega (arith, l)) ∙ get_or-drop from es i d))
        ∙ starts.here i d (omega (arith, l, some, within, length-take (to - from) (drop from es), length-drop from es))

    by : (from + 2 < to) ⊎ (to ≤ from + 2) → to ≤ from + 2
    by (inr h) = h
    by (inl l) =
        let zeroth : from + 0 < length es = omega (arith, l, within) in
        let first : from + 1 < length es = omega (arith, l, within) in
        let second : from + 2 < length es = omega (arith, l, within) in
        let wide =
        wide_second es arranged all v (get_or es (from + 0) d) (get_or es (from + 1) d) (at_place es (from + 0) d zeroth) (at_place es (from + 1) d first) (start 0 (omega (arith, l))) (start 1 (omega (arith, l)))
        (arranged.rising (from + 0) (from + 1) d (omega arith) first) in
        let up =
        vertical_first es arranged all v (get_or es (from + 1) d) (get_or es (from + 2) d) (at_place es (from + 1) d first) (at_place es (from + 2) d second) (start 1 (omega (arith, l))) (start 2 (omega (arith, l)))
        (arranged.rising (from + 1) (from + 2) d (omega arith) second) in
        let same = up.0 in
        absurd (omega (arith, ints, wide, same))

-- ---- the two segments that start at a point

module _ {X : Type 0} (entry : X → Entry Count) (segments : List X) (x y : X) (two : length segments ≡ 2) (first : x ≡ get_or segments 0 x) (second : y ≡ get_or segments 1 y) (es : List (Entry Count)) (v : Point) (arranged : IsArrangement es) (level : AllRectilinear (edges_of es)) (all : filter (starts_at v) es ≡ map entry segments) where
  parts : segments ≡ x ∷ y ∷ []
  parts = by segments two first second
    where
      by : (ss : List X) → length ss ≡ 2 → x ≡ get_or ss 0 x → y ≡ get_or ss 1 y → ss ≡ x ∷ y ∷ []
      by [] l f s = absurd (omega (arith, l))
      by (_ ∷ []) l f s = absurd (omega (arith, l))
      by (_ ∷ _ ∷ _ ∷ ss) l f s = absurd (omega (arith, l))
      by (a ∷ b ∷ []) l f s = λ i. sym f i ∷ sym s i ∷ []

  only : filter (starts_at v) es ≡ entry x ∷ entry y ∷ []
  only = all ∙ ap (map entry) parts

  listed : (e : Entry Count) → Contains (entry x ∷ entry y ∷ []) e → Contains es e × (e.edge.a ≡ v)
  listed e c =
      let there = subst (λ l. Contains l e) (sym only) c in (
        All-contains (Contains es) (filter (starts_at v) es) e (All-filter (starts_at v) (Contains es) es (All-contains_itself es)) there,
        point_equal e.edge.a v (is_equal (point_order e.edge.a v) (All-contains (λ f. starts_at v f ≡ true) (filter (starts_at v) es) e (filter_passes (starts_at v) es) there)),
      )

  one : Contains es (entry x) × ((entry x).edge.a ≡ v)
  one = listed (entry x) (0, omega arith, refl)

  other : Contains es (entry y) × ((entry y).edge.a ≡ v)
  other = listed (entry y) (1, omega arith, refl)

  before : edge_order (entry x).edge (entry y).edge ≡ Less
  before = subst (AllPairs (λ e f. edge_order e.edge f.edge ≡ Less)) only (AllPairs-filter (λ e f. edge_order e.edge f.edge ≡ Less) (starts_at v) es arranged.rising) 0 1 (entry x) (omega arith) (omega arith)

  of_horizontal : lower_side es (entry y).edge ≡ winding es (whole v)
  of_horizontal = lower_of_horizontal es arranged level v (entry x) (entry y) one.0 other.0 one.1 other.1 before only

  of_vertical : lower_side es (entry x).edge ≡ upper_side es (entry y)
  of_vertical = lower_of_vertical es arranged level v (entry x) (entry y) one.0 other.0 one.1 other.1 before only

  module _ (below : Count) (is : below ≡ winding es (whole v)) where
    below_horizontal : below ≡ lower_side es (entry y).edge
    below_horizontal = is ∙ sym of_horizontal

    below_vertical : boolean.join below (entry y).count ≡ lower_side es (entry x).edge
    below_vertical = ap (λ c. boolean.join c (entry y).count) below_horizontal ∙ sym of_vertical

    pub pair_sides :
        {Z : Type 0} (wanted : Count → X → Z) (sides : List Z) → sides ≡ wanted (boolean.join below (entry y).count) x ∷ wanted below y ∷ []
        → (i : ℕ) (d : X) (e : Z) → i < length segments → get_or sides i e ≡ wanted (lower_side es (entry (get_or segments i d)).edge) (get_or segments i d)
    pair_sides wanted sides are i d e l =
        ap (λ l. get_or l i e) are ∙ (by i (omega (arith, l, two)) ∙ ap (λ ss. wanted (lower_side es (entry (get_or ss i d)).edge) (get_or ss i d)) (sym parts))
      where
        by :
            (i : ℕ) → i < 2 → get_or (wanted (boolean.join below (entry y).count) x ∷ wanted below y ∷ []) i e ≡ wanted (lower_side es (entry (get_or (x ∷ y ∷ []) i d)).edge) (get_or (x ∷ y ∷ []) i d)
        by zero l = ap (λ c. wanted c x) below_vertical
        by (suc zero) l = ap (λ c. wanted c y) below_horizontal
        by (suc (suc n)) l = absurd (omega (arith, l))

    pub horizontal_beyond : (d : X) → count_fits (boolean.join below (entry y).count) ≡ false → (i : ℕ) × (i < length segments) × (count_fits (upper_side es (entry (get_or segments i d))) ≡ false)
    horizontal_beyond d h = (1, omega (arith, two), ap (λ ss. count_fits (upper_side es (entry (get_or ss 1 d)))) parts ∙ (ap (λ c. count_fits (boolean.join c (entry y).count)) (sym below_horizontal) ∙ h))

    pub vertical_beyond :
        (d : X) → count_fits (boolean.join (boolean.join below (entry y).count) (entry x).count) ≡ false → (i : ℕ) × (i < length segments) × (count_fits (upper_side es (entry (get_or segments i d))) ≡ false)
    vertical_beyond d h = (0, omega (arith, two), ap (λ ss. count_fits (upper_side es (entry (get_or ss 0 d)))) parts ∙ (ap (λ c. count_fits (boolean.join c (entry x).count)) (sym below_vertical) ∙ h))
