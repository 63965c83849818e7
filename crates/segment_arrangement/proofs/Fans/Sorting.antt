-- The segments that start at a point, sorted by their ways: its fan.
use Rattle.std.proofs.Common.{◌≡◌, ◌≢◌, ℕ, ◌<◌, ◌⊎◌, inl, inr, List, [], ◌∷◌, length, map, filter, get_or, All, AllPairs, Contains, IsPermutation, Bool, true, false, cond, ℤ, pos, neg_ℤ, ◌-ℤ◌, ◌*ℤ◌, ◌≤ℤ◌, ◌<ℤ◌, int_lt, subst, refl, sym, ap, ◌∙◌, arith}
use Rattle.std.specs.List.{IsDistinct}
use Rattle.std.specs.List.Sorted.{IsSortedBy}
use Rattle.std.specs.declared.cmp.Ordering.TheVariants.{Less, Equal, Greater}
use Rattle.std.specs.Ordering.{is_eq, int_cmp}
use Rattle.std.proofs.lemmas.Int.{ints}
use Rattle.std.proofs.lemmas.Bool.{cases_Bool}
use Rattle.std.proofs.lemmas.List.{get_or-map, length-map}
use Rattle.std.proofs.Math.IntN.{*ℤ_comm}
use Rattle.std.proofs.lemmas.List.Elements.{All-map, All-weaker, All-contains_itself, All-filter, All-from_recursion, recursion_from_All, filter_passes}
use Rattle.std.proofs.lemmas.List.Kept.{AllPairs-filter}
use Rattle.std.proofs.lemmas.List.Sorted.{IsPermutation-map, All-permutation, sorted_far}
use Rattle.std.proofs.lemmas.Map.Keys.{IsDistinct-IsPermutation}
use Rattle.plane_base.specs.Plane.{Point, Edge, turn, point_order, edge_order}
use Rattle.plane_base.specs.Counts.{Count, Entry}
use Rattle.plane_base.specs.Segments.{angle_order}
use Rattle.plane_base.proofs.Facts.Maps.Normal.{AllPairs-nil, AllPairs-cons, AllPairs-head, AllPairs-tail}
use Rattle.plane_base.proofs.Facts.Points.Orders.{is_equal, point_equal, edge_itself}
use Rattle.segment_arrangement.specs.FanLaws.{starts_at, IsFan}
use Rattle.segment_arrangement.specs.SideLaws.{IsArrangement}
use Rattle.segment_arrangement.specs.Sweeps.{IsForward, turns_left}
use Rattle.segment_arrangement.proofs.Facts.ColumnPlaces.{lt_holds, lt_tells, lt_fails, lt_tells_not}
use Rattle.segment_arrangement.proofs.Facts.ConstantSides.{directed_entry}
use Rattle.segment_arrangement.proofs.Facts.Fans.{not_equal}
use Rattle.segment_arrangement.proofs.Facts.Angles.{angle_is_lawful}
use Rattle.segment_arrangement.proofs.Fans.Order.{angles_are_ordered}
use Rattle.segment_arrangement.proofs.Facts.LiveLists.{apart}

-- ---- pairs under a test that tells no order

module _ {X : Type 0} (e : X → X → Bool) where
  distinct_from : (xs : List X) → AllPairs (λ x y. e x y ≡ false) xs → IsDistinct e xs
  unfolding IsDistinct
  distinct_from [] h = tt
  distinct_from (x ∷ xs) h = (recursion_from_All (λ y. e x y ≡ false) xs (AllPairs-head (λ x y. e x y ≡ false) x xs h), distinct_from xs (AllPairs-tail (λ x y. e x y ≡ false) x xs h))

  pairs_from : (xs : List X) → IsDistinct e xs → AllPairs (λ x y. e x y ≡ false) xs
  unfolding IsDistinct
  pairs_from [] h = AllPairs-nil (λ x y. e x y ≡ false)
  pairs_from (x ∷ xs) h = AllPairs-cons (λ x y. e x y ≡ false) x xs (All-from_recursion (λ y. e x y ≡ false) xs h.0) (pairs_from xs h.1)

  pairs_moved : ((x y : X) → e x y ≡ e y x) → (xs ys : List X) → IsPermutation xs ys → AllPairs (λ x y. e x y ≡ false) xs → AllPairs (λ x y. e x y ≡ false) ys
  pairs_moved flips xs ys moved h = pairs_from ys (IsDistinct-IsPermutation e flips xs ys moved (distinct_from xs h))

module _ {X Y : Type 0} (R : Y → Y → Type 0) (f : X → Y) where
  pairs_mapped : (xs : List X) → AllPairs (λ x y. R (f x) (f y)) xs → AllPairs R (map f xs)
  pairs_mapped [] h = AllPairs-nil R
  pairs_mapped (x ∷ xs) h =
      AllPairs-cons R (f x) (map f xs) (All-map (R (f x)) f xs (AllPairs-head (λ x y. R (f x) (f y)) x xs h)) (pairs_mapped xs (AllPairs-tail (λ x y. R (f x) (f y)) x xs h))

-- ---- ways

pub record IsWay (width climb : ℤ) (s : Edge) : Type 0 where
  pub wide : width ≡ s.b.x -ℤ s.a.x
  pub high : climb ≡ s.b.y -ℤ s.a.y

way_turn : (w c v d : ℤ) (s t : Edge) → IsWay w c s → IsWay v d t → s.a ≡ t.a → (w *ℤ d) -ℤ (c *ℤ v) ≡ turn s.a s.b t.b
way_turn w c v d s t one two same = rw (one.wide, one.high, two.wide, two.high, sym same) refl

lt_turned : (m n : ℤ) → m ≡ neg_ℤ n → int_lt (pos 0) m ≡ int_lt n (pos 0)
lt_turned m n e = by (cases_Bool (int_lt n (pos 0)))
  where
    up : n <ℤ pos 0 → pos 0 <ℤ m
    up l = omega (arith, ints, e, l)

    down : pos 0 ≤ℤ n → m ≤ℤ pos 0
    down l = omega (arith, ints, e, l)

    by : (int_lt n (pos 0) ≡ true) ⊎ (int_lt n (pos 0) ≡ false) → int_lt (pos 0) m ≡ int_lt n (pos 0)
    by (inl t) = lt_holds (pos 0) m (up (lt_tells n (pos 0) t)) ∙ sym t
    by (inr f) = lt_fails (pos 0) m (down (lt_tells_not n (pos 0) f)) ∙ sym f

level_flips : (m n : ℤ) → m ≡ neg_ℤ n → is_eq (int_cmp (pos 0) m) ≡ is_eq (int_cmp (pos 0) n)
level_flips m n e = by (int_lt (pos 0) m) (int_lt m (pos 0)) (int_lt (pos 0) n) (int_lt n (pos 0)) (lt_turned m n e) (lt_turned n m (omega (arith, ints, e)))
  where
    by : (b c f g : Bool) → b ≡ g → f ≡ c → is_eq (cond b Less (cond c Greater Equal)) ≡ is_eq (cond f Less (cond g Greater Equal))
    by b c f g p q = rw (p, q) (both g c)
      where
        both : (g c : Bool) → is_eq (cond g Less (cond c Greater Equal)) ≡ is_eq (cond c Less (cond g Greater Equal))
        both true true = refl
        both true false = refl
        both false true = refl
        both false false = refl

turned_left : (m n : ℤ) → m ≡ neg_ℤ n → int_lt (pos 0) n ≡ false → is_eq (int_cmp (pos 0) m) ≡ false → int_cmp (pos 0) m ≡ Less
turned_left m n e right level = by (int_lt (pos 0) m) (int_lt m (pos 0)) (sym (lt_turned n m (omega (arith, ints, e))) ∙ right) level
  where
    by : (b c : Bool) → c ≡ false → is_eq (cond b Less (cond c Greater Equal)) ≡ false → cond b Less (cond c Greater Equal) ≡ Less
    by true c f l = refl
    by false true f l = absurd (cc)
    by false false f l = absurd (cc)

not_same : (s t : Edge) → edge_order s t ≡ Less → s ≢ t
not_same s t l e = let level = edge_itself s in let less = ap (λ u. edge_order s u) e ∙ l in cc

-- ---- the fan

module _ {T : Type 0} (span : ℤ) (width climb : T → ℤ) (forward : (t : T) → IsForward span (width t) (climb t)) (at : T → Entry Count) where
  abbrev swerve : T → T → ℤ
  swerve s t = (width s *ℤ climb t) -ℤ (climb s *ℤ width t)

  swerve_back : (s t : T) → swerve s t ≡ neg_ℤ (swerve t s)
  swerve_back s t = by (width s *ℤ climb t) (climb s *ℤ width t) (climb t *ℤ width s) (width t *ℤ climb s) (*ℤ_comm (width s) (climb t)) (*ℤ_comm (climb s) (width t))
    where
      by : (a b c d : ℤ) → a ≡ c → b ≡ d → a -ℤ b ≡ neg_ℤ (d -ℤ c)
      by a b c d e f = omega (arith, ints, e, f)

  abbrev is_level : T → T → Bool
  is_level s t = is_eq (int_cmp (pos 0) (swerve s t))

  abbrev pub Takes : T → Type 0
  Takes t = IsWay (width t) (climb t) (at t).edge

  module _ (es : List (Entry Count)) (v : Point) (arranged : IsArrangement es) (items fan : List T) (all : filter (starts_at v) es ≡ map at items) (ways : All Takes items) (moved : IsPermutation items fan) where
    abbrev entries : List (Entry Count)
    entries = map at items

    in_map : All (Contains es) entries
    in_map = subst (All (Contains es)) all (All-filter (starts_at v) (Contains es) es (All-contains_itself es))

    at_point : All (λ f. f.edge.a ≡ v) entries
    at_point =
        All-weaker (λ f. starts_at v f ≡ true) (λ f. f.edge.a ≡ v) (λ f e. point_equal f.edge.a v (is_equal (point_order f.edge.a v) e)) entries
        (subst (All (λ f. starts_at v f ≡ true)) all (filter_passes (starts_at v) es))

    rises : AllPairs (λ e f. edge_order e.edge f.edge ≡ Less) entries
    rises = subst (AllPairs (λ e f. edge_order e.edge f.edge ≡ Less)) all (AllPairs-filter (λ e f. edge_order e.edge f.edge ≡ Less) (starts_at v) es arranged.rising)

    abbrev Knows : T → Type 0
    Knows t = Takes t × Contains es (at t) × ((at t).edge.a ≡ v)

    known : All Knows items
    known i d l = (
      ways i d l,
      subst (Contains es) (get_or-map at items i d (at d) l) (in_map i (at d) (rw (length-map items at) l)),
      subst (λ e. e.edge.a ≡ v) (get_or-map at items i d (at d) l) (at_point i (at d) (rw (length-map items at) l)),
    )

    angle_of : (s t : T) → Knows s → Knows t → angle_order (at s).edge (at t).edge ≡ int_cmp (pos 0) (swerve s t)
    angle_of s t a b = ap (int_cmp (pos 0)) (sym (way_turn (width s) (climb s) (width t) (climb t) (at s).edge (at t).edge a.0 b.0 (a.2 ∙ sym b.2)))

    unlevel : (s t : T) → Knows s → Knows t → (at s).edge ≢ (at t).edge → is_level s t ≡ false
    unlevel s t a b differ =
        ap is_eq (sym (angle_of s t a b))
        ∙ not_equal (angle_order (at s).edge (at t).edge)
        (angle_is_lawful.decided (at s).edge (at t).edge (a.2 ∙ sym b.2) (directed_entry es arranged (at s) a.1) (directed_entry es arranged (at t) b.1) (apart es (at s) (at t) arranged a.1 b.1 differ) differ)

    unlevel_pairs : AllPairs (λ s t. is_level s t ≡ false) items
    unlevel_pairs i j d l m =
        unlevel (get_or items i d) (get_or items j d) (known i d (omega (arith, l, m))) (known j d m)
        (not_same (at (get_or items i d)).edge (at (get_or items j d)).edge (rw (get_or-map at items i d (at d) (omega (arith, l, m)), get_or-map at items j d (at d) m) at (rises i j (at d) l (rw (length-map items at) m))))

    unlevel_fan : AllPairs (λ s t. is_level s t ≡ false) fan
    unlevel_fan = pairs_moved is_level (λ s t. level_flips (swerve s t) (swerve t s) (swerve_back s t)) items fan moved unlevel_pairs

    known_fan : All Knows fan
    known_fan = All-permutation Knows items fan moved known

    module _ (sorted : IsSortedBy (λ s t. turns_left (width s) (climb s) (width t) (climb t)) fan) where
      rising_pair : (i j : ℕ) (d : T) → i < j → j < length fan → angle_order (at (get_or fan i d)).edge (at (get_or fan j d)).edge ≡ Less
      rising_pair i j d l m =
          angle_of (get_or fan i d) (get_or fan j d) (known_fan i d (omega (arith, l, m))) (known_fan j d m)
          ∙ turned_left (swerve (get_or fan i d) (get_or fan j d)) (swerve (get_or fan j d) (get_or fan i d)) (swerve_back (get_or fan i d) (get_or fan j d))
          (sorted_far (λ s t. turns_left (width s) (climb s) (width t) (climb t)) (angles_are_ordered span width climb forward) fan sorted i j d (omega (arith, l)) m)
          (unlevel_fan i j d l m)

      pub is_fan : IsFan es v (map at fan)
      is_fan = record {
        all = rw all (IsPermutation-map at items fan moved);
        rising = pairs_mapped (λ e f. angle_order e.edge f.edge ≡ Less) at fan rising_pair;
      }
