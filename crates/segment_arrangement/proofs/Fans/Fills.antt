-- The segments that start at one point, the ways that they take, and the sides that are found of them.
use Rattle.std.proofs.Common.{◌≡◌, ℕ, ◌<◌, List, [], ◌∷◌, length, map, filter, get_or, All, Contains, IsPermutation, ℤ, false, Less, subst, sym, ap, ◌∙◌, arith}
use Rattle.std.specs.List.Sorted.{IsSortedBy}
use Rattle.std.proofs.lemmas.List.{get_or-map, length-map, ext_get_or, get_or_default}
use Rattle.std.proofs.lemmas.List.Sorted.{All-permutation, Contains-permutation, IsPermutation-refl}
use Rattle.std.proofs.lemmas.List.Elements.{All-nil}
use Rattle.plane_base.specs.Plane.{Point}
use Rattle.plane_base.specs.Counts.{Count, Entry, boolean}
use Rattle.plane_base.proofs.Facts.Maps.Normal.{AllPairs-nil, AllPairs-cons}
use Rattle.segment_split.specs.Kinds.{count_fits}
use Rattle.plane_base.specs.Windings.{winding}
use Rattle.segment_arrangement.specs.EdgeSides.{lower_side, upper_side}
use Rattle.segment_arrangement.proofs.Facts.FanSums.{fan_sides}
use Rattle.segment_arrangement.specs.FanLaws.{whole, starts_at}
use Rattle.plane_base.specs.Segments.{angle_order}
use Rattle.segment_arrangement.specs.SideLaws.{IsArrangement}
use Rattle.segment_arrangement.specs.Sweeps.{IsForward, IsHandedUp, turns_left}
use Rattle.segment_arrangement.proofs.Fans.Sorting.{IsWay, is_fan}
use Rattle.segment_arrangement.proofs.Fans.Handing.{handed_up_along}

pub first_of : {T : Type 0} (xs : List T) → 0 < length xs → T
first_of [] l = absurd (omega (arith, l))
first_of (x ∷ xs) l = x

module _ {X T : Type 0} (index : T → ℕ) (segments : List X) (items fan : List T) (one_each : length items ≡ length segments) (moved : IsPermutation items fan) (indexed : (i : ℕ) (t : T) → i < length segments → index (get_or items i t) ≡ i) where
  pub all_inside : All (λ t. index t < length segments) fan
  all_inside = All-permutation (λ t. index t < length segments) items fan moved (λ i t l. let m : i < length segments = omega (arith, l, one_each) in rw (indexed i t m) m)

  reached : (i : ℕ) (t : T) → i < length segments → (j : ℕ) × (j < length fan) × (index (get_or fan j t) ≡ i)
  reached i t l = by (Contains-permutation items fan (get_or items i t) moved (i, here, get_or_default items i (get_or items i t) t here))
    where
      here : i < length items
      here = omega (arith, l, one_each)

      by : Contains fan (get_or items i t) → (j : ℕ) × (j < length fan) × (index (get_or fan j t) ≡ i)
      by c = (c.0, c.1, ap index (get_or_default fan c.0 t (get_or items i t) c.1 ∙ c.2) ∙ indexed i t l)

  pub all_found :
      {Z : Type 0} (wanted : ℕ → Z) (sides : List Z) (e : Z) → ((t : T) (j : ℕ) → j < length fan → get_or sides (index (get_or fan j t)) e ≡ wanted (index (get_or fan j t)))
      → (i : ℕ) → i < length segments → get_or sides i e ≡ wanted i
  all_found wanted sides e found i l = by (first_of items (omega (arith, l, one_each)))
    where
      by : T → get_or sides i e ≡ wanted i
      by t = let r = reached i t l in rw r.2 at (found t r.0 r.1)

  module _ (entry : X → Entry Count) (d : X) (span : ℤ) (width climb : T → ℤ) (forward : (t : T) → IsForward span (width t) (climb t)) (ways : (i : ℕ) (t : T) → i < length segments → IsWay (width (get_or items i t)) (climb (get_or items i t)) (entry (get_or segments i d)).edge) where
    same_entries : map entry segments ≡ map (λ t. entry (get_or segments (index t) d)) items
    same_entries =
        ext_get_or (entry d) (map entry segments) (map (λ t. entry (get_or segments (index t) d)) items) (length-map segments entry ∙ (sym one_each ∙ sym (length-map items (λ t. entry (get_or segments (index t) d)))))
        (λ i l. at_place i (rw (length-map segments entry) at l))
      where
        at_place : (i : ℕ) → i < length segments → get_or (map entry segments) i (entry d) ≡ get_or (map (λ t. entry (get_or segments (index t) d)) items) i (entry d)
        at_place i l = by (first_of items (omega (arith, l, one_each)))
          where
            by : T → get_or (map entry segments) i (entry d) ≡ get_or (map (λ t. entry (get_or segments (index t) d)) items) i (entry d)
            by t =
                get_or-map entry segments i d (entry d) l
                ∙ (ap (λ n. entry (get_or segments n d)) (sym (indexed i t l)) ∙ sym (get_or-map (λ t. entry (get_or segments (index t) d)) items i t (entry d) (omega (arith, l, one_each))))

    pub led_along_fan :
        (es : List (Entry Count)) (v : Point) → IsArrangement es → filter (starts_at v) es ≡ map entry segments → IsSortedBy (λ s t. turns_left (width s) (climb s) (width t) (climb t)) fan
        → IsHandedUp (λ i. lower_side es (entry (get_or segments i d)).edge) (λ i. (entry (get_or segments i d)).count) (winding es (whole v)) (map index fan)
    led_along_fan es v arranged all sorted =
        handed_up_along index (λ i. entry (get_or segments i d)) es v fan arranged
        (is_fan span width climb forward (λ t. entry (get_or segments (index t) d)) es v arranged items fan (all ∙ same_entries)
        (λ i t l. let m : i < length segments = omega (arith, l, one_each) in rw (indexed i t m) (ways i t m)) moved sorted)

-- ---- the only segment that starts at a point

module _ {X : Type 0} (entry : X → Entry Count) (segments : List X) (x : X) (one : length segments ≡ 1) (first : x ≡ get_or segments 0 x) (es : List (Entry Count)) (v : Point) (arranged : IsArrangement es) (all : filter (starts_at v) es ≡ map entry segments) where
  alone_lower : lower_side es (entry x).edge ≡ winding es (whole v)
  alone_lower = by segments one first all
    where
      by : (ss : List X) → length ss ≡ 1 → x ≡ get_or ss 0 x → filter (starts_at v) es ≡ map entry ss → lower_side es (entry x).edge ≡ winding es (whole v)
      by [] l f a = absurd (omega (arith, l))
      by (y ∷ z ∷ ss) l f a = absurd (omega (arith, l))
      by (y ∷ []) l f a =
          ap (λ s. lower_side es (entry s).edge) f
          ∙ fan_sides.first es (entry y ∷ []) v (entry y) arranged
          (record {
            all = subst (IsPermutation (filter (starts_at v) es)) a (IsPermutation-refl (filter (starts_at v) es));
            rising = AllPairs-cons (λ e f. angle_order e.edge f.edge ≡ Less) (entry y) [] (All-nil (λ f. angle_order (entry y).edge f.edge ≡ Less)) (AllPairs-nil (λ e f. angle_order e.edge f.edge ≡ Less));
          }) (omega arith)

  alone_same : (i : ℕ) (d : X) → i < length segments → get_or segments i d ≡ x
  alone_same i d l = ap (λ j. get_or segments j d) none ∙ (get_or_default segments 0 d x (omega (arith, one)) ∙ sym first)
    where
      none : i ≡ 0
      none = omega (arith, l, one)

  module _ (below : Count) (is : below ≡ winding es (whole v)) where
    pub alone_sides :
        {Z : Type 0} (wanted : Count → X → Z) (sides : List Z) → sides ≡ wanted below x ∷ []
        → (i : ℕ) (d : X) (e : Z) → i < length segments → get_or sides i e ≡ wanted (lower_side es (entry (get_or segments i d)).edge) (get_or segments i d)
    alone_sides wanted sides are i d e l =
        (λ k. get_or (are k) (none k) e) ∙ (ap (λ c. wanted c x) lower ∙ ap (λ s. wanted (lower_side es (entry s).edge) s) (sym (alone_same i d l)))
      where
        none : i ≡ 0
        none = omega (arith, l, one)

        lower : below ≡ lower_side es (entry x).edge
        lower = is ∙ sym alone_lower

    pub alone_beyond : (d : X) → count_fits (boolean.join below (entry x).count) ≡ false → (i : ℕ) × (i < length segments) × (count_fits (upper_side es (entry (get_or segments i d))) ≡ false)
    alone_beyond d h =
        let inside : 0 < length segments = omega (arith, one) in
        (0, inside, ap (λ s. count_fits (upper_side es (entry s))) (alone_same 0 d inside) ∙ (ap (λ c. count_fits (boolean.join c (entry x).count)) (alone_lower ∙ sym is) ∙ h))
