-- A region is somewhere just where some edge bounds it.
use Rattle.std.proofs.Common.{◌≡◌, ◌≢◌, ◌⊎◌, inl, inr, zero, suc, Bool, true, false, not, cond, List, [], ◌∷◌, ◌++◌, filter, All, AllPairs, Contains, ℤ, pos, negsuc, ◌+ℤ◌, refl, sym, ap, ◌∙◌, subst, arith}
use Rattle.std.specs.declared.cmp.Ordering.{Ordering}
use Rattle.std.specs.declared.cmp.Ordering.TheVariants.{Less, Equal, Greater}
use Rattle.std.specs.Ordering.{is_eq, ordering_reverse}
use Rattle.std.proofs.lemmas.Int.{ints}
use Rattle.std.proofs.lemmas.List.Elements.{All-head, All-contains, All-contains_itself, All-filter, All-append, filter_passes, Contains-append_left}
use Rattle.std.proofs.lemmas.List.Kept.{AllPairs-filter}
use Rattle.std.proofs.lemmas.List.Sorted.{All-permutation, Contains-permutation}
use Rattle.plane_base.specs.Plane.{Point, RationalPoint, IsRational, point_order, edge_order, is_below}
use Rattle.plane_base.specs.Counts.{Count, Entry}
use Rattle.plane_base.specs.Windings.{winding}
use Rattle.plane_base.specs.Regions.{FillRule, OverlayRule, region}
use Rattle.plane_base.specs.Totals.{total}
use Rattle.plane_base.proofs.Facts.Points.Orders.{point_total, is_equal, point_equal, point_itself, before_is_less, less_then}
use Rattle.plane_base.proofs.Facts.Maps.Normal.{AllPairs-head}
use Rattle.segment_arrangement.specs.EdgeSides.{middle, lower_side, upper_side, differ, is_boundary, boundary, sign, indicator}
use Rattle.segment_arrangement.specs.SideLaws.{IsArrangement, HasFilledSide, HasFilledPoint, HasBoundary, FilledIsBounded}
use Rattle.segment_arrangement.specs.FanLaws.{whole, starts_at}
use Rattle.segment_arrangement.specs.Rings.{ends_at, Leads, IsRing}
use Rattle.segment_arrangement.proofs.Facts.ConstantSides.{directed_entry}
use Rattle.segment_arrangement.proofs.Facts.GreatestEntry.{Contains-head, Contains-later, Contains-cases}
use Rattle.segment_arrangement.proofs.Facts.LastBelow.{signs_sum_to_region}
use Rattle.segment_arrangement.proofs.Facts.LiveLists.{Contains-filter}
use Rattle.segment_arrangement.proofs.Facts.Rings.{on_right, on_left, changes, sectors_are_whole}
use Rattle.segment_arrangement.proofs.Facts.RingOrder.{points_have_rings}

-- ---- a sum that is not 0 has a part that is not

zero_or : (z : ℤ) → (z ≡ pos 0) ⊎ (z ≢ pos 0)
zero_or (pos zero) = inl refl
zero_or (pos (suc n)) = inr (λ e. absurd (cc))
zero_or (negsuc n) = inr (λ e. absurd (cc))

some_part : {A : Type 0} (f : A → ℤ) (xs : List A) → total f xs ≢ pos 0 → (x : A) × Contains xs x × (f x ≢ pos 0)
some_part f [] h = absurd (h refl)
some_part f (x ∷ xs) h = by (zero_or (f x)) (some_part f xs)
  where
    by : (f x ≡ pos 0) ⊎ (f x ≢ pos 0) → (total f xs ≢ pos 0 → (y : _) × Contains xs y × (f y ≢ pos 0)) → (y : _) × Contains (x ∷ xs) y × (f y ≢ pos 0)
    by (inr here) later = (x, Contains-head x xs, here)
    by (inl none) later = with_more (later (λ e. h (alone (f x) (total f xs) none e)))
      where
        alone : (y z : ℤ) → y ≡ pos 0 → z ≡ pos 0 → y +ℤ z ≡ pos 0
        alone y z e g = omega (arith, ints)

        with_more : (y : _) × Contains xs y × (f y ≢ pos 0) → (y : _) × Contains (x ∷ xs) y × (f y ≢ pos 0)
        with_more (y, there, part) = (y, Contains-later x xs y there, part)

-- ---- where the region is, something bounds it

module _ (fill : FillRule) (rule : OverlayRule) (es : List (Entry Count)) (arranged : IsArrangement es) where
  -- an edge with a sign bounds
  signed : (e : Entry Count) → sign fill rule es e ≢ pos 0 → is_boundary fill rule es e ≡ true
  signed e h = by (region fill rule (lower_side es e.edge)) (region fill rule (upper_side es e)) h
    where
      by : (lower upper : Bool) → cond upper (cond lower (pos 0) (pos 1)) (cond lower (negsuc 0) (pos 0)) ≢ pos 0 → differ lower upper ≡ true
      by true true h = absurd (h refl)
      by true false h = refl
      by false true h = refl
      by false false h = absurd (h refl)

  -- what an edge adds below a point
  abbrev part : RationalPoint → Entry Count → ℤ
  part p e = cond (is_below e.edge.a e.edge.b p) (sign fill rule es e) (pos 0)

  signed_part : (p : RationalPoint) (e : Entry Count) → part p e ≢ pos 0 → sign fill rule es e ≢ pos 0
  signed_part p e h = by (is_below e.edge.a e.edge.b p) h
    where
      by : (b : Bool) → cond b (sign fill rule es e) (pos 0) ≢ pos 0 → sign fill rule es e ≢ pos 0
      by true h = h
      by false h = absurd (h refl)

  bounded_at : (p : RationalPoint) → IsRational p → region fill rule (winding es p) ≡ true → HasBoundary fill rule es
  bounded_at p rational here = found (some_part (part p) es (some (total (part p) es) (signs_sum_to_region fill rule es p arranged rational ∙ ap indicator here)))
    where
      some : (z : ℤ) → z ≡ pos 1 → z ≢ pos 0
      some z one e = absurd (cc)

      found : (e : Entry Count) × Contains es e × (part p e ≢ pos 0) → HasBoundary fill rule es
      found (e, there, h) = (e, there, signed e (signed_part p e h))

  bounded_by_side : HasFilledSide fill rule es → HasBoundary fill rule es
  bounded_by_side (e, there, inl lower) = bounded_at (middle e.edge) (omega arith) lower
  bounded_by_side (e, there, inr upper) = by (region fill rule (lower_side es e.edge)) refl
    where
      by : (b : Bool) → region fill rule (lower_side es e.edge) ≡ b → HasBoundary fill rule es
      by true lower = bounded_at (middle e.edge) (omega arith) lower
      by false lower = (e, there, ap (λ b. differ b (region fill rule (upper_side es e))) lower ∙ ap (differ false) upper)

  -- ---- what bounds has a side where the region is

  side_by_bound : HasBoundary fill rule es → HasFilledSide fill rule es
  side_by_bound (e, there, bounds) = (e, there, by (region fill rule (lower_side es e.edge)) (region fill rule (upper_side es e)) bounds)
    where
      by : (lower upper : Bool) → differ lower upper ≡ true → (lower ≡ true) ⊎ (upper ≡ true)
      by true upper h = inl refl
      by false true h = inr refl
      by false false h = absurd (cc)

  -- ---- the least point of the boundary: all edges of the boundary there start there, and one of them has the region below it

  module _ (x : Entry Count) (rest : List (Entry Count)) (is : boundary fill rule es ≡ x ∷ rest) where
    abbrev v : Point
    v = x.edge.a

    -- what bounds doesn't end there
    starts_only : (f : Entry Count) → Contains es f → is_boundary fill rule es f ≡ true → f.edge.b ≢ v
    starts_only f there bounds ends = by (Contains-cases x rest f (subst (λ fs. Contains fs f) is (Contains-filter (is_boundary fill rule es) es f there bounds)))
      where
        before : point_order f.edge.a v ≡ Less
        before = subst (λ p. point_order f.edge.a p ≡ Less) ends (before_is_less f.edge.a f.edge.b (directed_entry es arranged f there))

        itself : point_order v v ≡ Equal
        itself = point_itself v

        behind : point_order v f.edge.a ≡ Greater
        behind = point_total.antisymm v f.edge.a ∙ ap ordering_reverse before

        never_less : (o : Ordering) → o ≡ Equal → o ≡ Less → ⊥
        never_less o e f = absurd (cc)

        never_more : (o p : Ordering) → o ≡ Greater → (o ≡ Less) ⊎ ((o ≡ Equal) × (p ≡ Less)) → ⊥
        never_more o p e (inl f) = absurd (cc)
        never_more o p e (inr f) = let g : o ≡ Equal = f.0 in absurd (cc)

        by : (x ≡ f) ⊎ Contains rest f → ⊥
        by (inl same) = never_less (point_order v v) itself (subst (λ g. point_order g.edge.a v ≡ Less) (sym same) before)
        by (inr later) =
            never_more (point_order v f.edge.a) (point_order x.edge.b f.edge.b) behind
            (less_then (point_order v f.edge.a) (point_order x.edge.b f.edge.b)
            (All-contains (λ g. edge_order x.edge g.edge ≡ Less) rest f (AllPairs-head (λ e g. edge_order e.edge g.edge ≡ Less) x rest (subst (AllPairs (λ e g. edge_order e.edge g.edge ≡ Less)) is (AllPairs-filter (λ e g. edge_order e.edge g.edge ≡ Less) (is_boundary fill rule es) es arranged.rising))) later))

    -- the edges of the boundary round the point
    abbrev round : List (Entry Count) → List (Entry Count) → List (Entry Count)
    round starts ends = filter (is_boundary fill rule es) (starts ++ ends)

    module _ (starts ends : List (Entry Count)) (ring : IsRing es v starts ends) where
      -- what is told of each edge that bounds
      abbrev IsStart : Entry Count → Type 0
      IsStart f = is_boundary fill rule es f ≡ true → Contains es f × (starts_at v f ≡ true)

      all_start : All IsStart (starts ++ ends)
      all_start =
          All-append IsStart starts ends
          (All-permutation IsStart (filter (starts_at v) es) starts ring.starts_in_order.all
          (All-and (λ f. starts_at v f ≡ true) (Contains es) IsStart (λ f here there bounds. (there, here)) (filter (starts_at v) es) (filter_passes (starts_at v) es) (All-filter (starts_at v) (Contains es) es (All-contains_itself es))))
          (All-permutation IsStart (filter (ends_at v) es) ends ring.all_ends
          (All-and (λ f. ends_at v f ≡ true) (Contains es) IsStart (λ f here there bounds. absurd (starts_only f there bounds (point_equal f.edge.b v (is_equal (point_order f.edge.b v) here)))) (filter (ends_at v) es) (filter_passes (ends_at v) es) (All-filter (ends_at v) (Contains es) es (All-contains_itself es))))
        where
          All-and : (P Q R : Entry Count → Type 0) → ((f : Entry Count) → P f → Q f → R f) → (xs : List (Entry Count)) → All P xs → All Q xs → All R xs
          All-and P Q R f xs p q i d l = f _ (p i d l) (q i d l)

      least_there : Contains (round starts ends) x
      least_there =
          Contains-filter (is_boundary fill rule es) (starts ++ ends) x
          (Contains-append_left starts ends x (Contains-permutation (filter (starts_at v) es) starts x ring.starts_in_order.all
          (Contains-filter (starts_at v) es x (All-contains (Contains es) (x ∷ rest) x (subst (All (Contains es)) is (All-filter (is_boundary fill rule es) (Contains es) es (All-contains_itself es))) (Contains-head x rest)) (ap is_eq (point_itself v)))))
          (All-contains (λ f. is_boundary fill rule es f ≡ true) (x ∷ rest) x (subst (All (λ f. is_boundary fill rule es f ≡ true)) is (filter_passes (is_boundary fill rule es) es)) (Contains-head x rest))

      -- of the first two edges of the boundary round the point one has the region on its right
      right_of_one : (b : Bool) (fs : List (Entry Count)) → Leads (on_right fill rule es v) (on_left fill rule es v) b b fs → All (λ f. is_boundary fill rule es f ≡ true) fs → Contains fs x
          → (f : Entry Count) × Contains fs f × (on_right fill rule es v f ≡ true)
      right_of_one b [] leads bound here = absurd (omega (arith, here.1))
      right_of_one b (f ∷ []) leads bound here = absurd (clash (on_right fill rule es v f) (on_left fill rule es v f) b leads.0 leads.1 (changes fill rule es v f (All-head (λ f. is_boundary fill rule es f ≡ true) f [] bound)))
        where
          clash : (right left b : Bool) → right ≡ b → left ≡ b → left ≡ not right → ⊥
          clash true left b e g h = absurd (cc)
          clash false left b e g h = absurd (cc)
      right_of_one b (f ∷ g ∷ fs) leads bound here = by (on_right fill rule es v f) refl
        where
          by : (c : Bool) → on_right fill rule es v f ≡ c → (k : Entry Count) × Contains (f ∷ g ∷ fs) k × (on_right fill rule es v k ≡ true)
          by true e = (f, Contains-head f (g ∷ fs), e)
          by false e =
              (g, Contains-later f (g ∷ fs) g (Contains-head g fs), leads.1.0 ∙ (changes fill rule es v f (All-head (λ f. is_boundary fill rule es f ≡ true) f (g ∷ fs) bound) ∙ ap not e))

      point_there : HasFilledPoint fill rule es
      point_there =
          found (right_of_one (region fill rule (winding es (whole v))) (round starts ends)
          (sectors_are_whole fill rule es starts ends v (is_boundary fill rule es) arranged ring (λ e here bounds. bounds)) (filter_passes (is_boundary fill rule es) (starts ++ ends)) least_there)
        where
          found : (f : Entry Count) × Contains (round starts ends) f × (on_right fill rule es v f ≡ true) → HasFilledPoint fill rule es
          found (f, there, right) = (
            middle f.edge,
            omega arith,
            lower (starts_at v f) (All-contains IsStart (round starts ends) f (All-filter (is_boundary fill rule es) IsStart (starts ++ ends) all_start) there
                (All-contains (λ f. is_boundary fill rule es f ≡ true) (round starts ends) f (filter_passes (is_boundary fill rule es) (starts ++ ends)) there)).1 right,
          )
            where
              lower : (b : Bool) → b ≡ true → region fill rule (cond b (lower_side es f.edge) (upper_side es f)) ≡ true → region fill rule (lower_side es f.edge) ≡ true
              lower true e h = h
              lower false e h = absurd (cc)

  point_by_bound : HasBoundary fill rule es → HasFilledPoint fill rule es
  point_by_bound (e, there, bounds) = by (boundary fill rule es) refl (Contains-filter (is_boundary fill rule es) es e there bounds)
    where
      by : (fs : List (Entry Count)) → boundary fill rule es ≡ fs → Contains fs e → HasFilledPoint fill rule es
      by [] is here = absurd (omega (arith, here.1))
      by (x ∷ rest) is here = round_least (points_have_rings es x.edge.a arranged)
        where
          round_least : (starts : List (Entry Count)) × (ends : List (Entry Count)) × IsRing es x.edge.a starts ends → HasFilledPoint fill rule es
          round_least (starts, ends, ring) = point_there x rest is starts ends ring

  bounded_by_point : HasFilledPoint fill rule es → HasBoundary fill rule es
  bounded_by_point (p, rational, here) = bounded_at p rational here

pub filled_is_bounded : FilledIsBounded
filled_is_bounded = record {
  sides = λ fill rule es arranged. (bounded_by_side fill rule es arranged, side_by_bound fill rule es arranged);
  points = λ fill rule es arranged. (bounded_by_point fill rule es arranged, point_by_bound fill rule es arranged);
}
