-- An answer contains a point just where the region is: no shape winds against the output, so where the windings sum to none all are none, and where they
-- sum to one turn one shape has it.
use Rattle.std.proofs.Common.{◌≡◌, ◌⊎◌, inl, inr, zero, suc, Bool, true, false, cond, not, ◌||◌, List, [], ◌∷◌, map, Contains, IsPermutation, ℤ, pos, negsuc, neg_ℤ, ◌+ℤ◌, ◌≤ℤ◌, refl, sym, ap, ◌∙◌, subst, arith}
use Rattle.std.proofs.lemmas.Int.{ints}
use Rattle.std.proofs.lemmas.List.Elements.{All-contains}
use Rattle.std.proofs.lemmas.List.Sorted.{IsPermutation-sym, Contains-permutation}
use Rattle.plane_base.specs.Plane.{Point, RationalPoint, IsRational}
use Rattle.plane_base.specs.Balance.{IsBalancedMap}
use Rattle.plane_base.specs.Counts.{Count, Entry, boolean}
use Rattle.plane_base.specs.Regions.{FillRule, OverlayRule, is_odd, region}
use Rattle.plane_base.specs.Totals.{total}
use Rattle.plane_base.specs.Windings.{winding, cycle_winding}
use Rattle.plane_base.proofs.Facts.Lists.Totals.{total_flat_map, total_permutation}
use Rattle.plane_base.proofs.Facts.Windings.Sums.{contour_winding_is}
use Rattle.segment_arrangement.specs.EdgeSides.{differ}
use Rattle.segment_arrangement.specs.Rings.{PointsHaveRings, NodeRing}
use Rattle.segment_arrangement.specs.SideLaws.{IsArrangement}
use Rattle.segment_arrangement.proofs.Facts.GreatestEntry.{Contains-head, Contains-later}
use Rattle.segment_split.specs.Redrawing.{redrawn}
use Rattle.segment_split.specs.RedrawLaws.{Rearranges, RedrawsToTheEnd}
use Rattle.segment_split.specs.declared.solver.Precision.{Precision}
use Rattle.contour_walk.specs.Answering.{Answering, ZeroKeepsAll}
use Rattle.contour_walk.specs.BindingLaws.{NeverStays, all_contours}
use Rattle.contour_walk.specs.Shapes.{finished, answer}
use Rattle.contour_walk.specs.Walks.{Contour}
use Rattle.contour_walk.specs.WalkLaws.{borders, turns_of, AllAreWalked, AnchorsAreSided, AnswerWinds}
use Rattle.contour_walk.proofs.Binding.Answers.{nothing_is_lost}
use Rattle.contour_walk.proofs.Binding.Passed.{have_anchors}
use Rattle.contour_walk.proofs.Binding.Walks.{walks_pass_once, walk_holes_are_owned}
use Rattle.contour_walk.proofs.Facts.Binding.Lists.{flat_holds, map_tells}
use Rattle.contour_walk.proofs.Straight.Laws.{straight_points_dont_wind}
use Rattle.polygon_overlay.specs.Builders.{IsHeld}
use Rattle.polygon_overlay.specs.ContainLaws.{AnswersContain}
use Rattle.polygon_overlay.specs.Location.{in_contour, in_shape, in_shapes}
use Rattle.polygon_overlay.specs.Overlays.{redrawn_of}
use Rattle.polygon_overlay.specs.OverlayLaws.{overlay_of}
use Rattle.polygon_overlay.proofs.Answering.ArrangementLaws.{redrawn_arrangement}
use Rattle.polygon_overlay.proofs.Locating.LocationLaws.{true_differ, false_differ, odd_more, odd_less}
use Rattle.polygon_overlay.proofs.Nesting.NestLaws.{cs, shapes, shapes_wind_or_not}

-- ---- parity

not_differ : (a b : Bool) → not (differ a b) ≡ differ (not a) b
not_differ true true = refl
not_differ true false = refl
not_differ false true = refl
not_differ false false = refl

odd_sum : (a b : ℤ) → is_odd (a +ℤ b) ≡ differ (is_odd a) (is_odd b)
odd_sum (pos zero) b = let h : pos 0 +ℤ b ≡ b = omega (arith, ints) in ap is_odd h ∙ sym (false_differ (is_odd b))
odd_sum (pos (suc n)) b =
    let h : pos (suc n) +ℤ b ≡ pos 1 +ℤ (pos n +ℤ b) = omega (arith, ints) in
    let k : pos 1 +ℤ pos n ≡ pos (suc n) = omega (arith, ints) in
    ap is_odd h
    ∙ (odd_more (pos n +ℤ b)
    ∙ (ap not (odd_sum (pos n) b) ∙ (not_differ (is_odd (pos n)) (is_odd b) ∙ ap (λ z. differ z (is_odd b)) (sym (odd_more (pos n)) ∙ ap is_odd k))))
odd_sum (negsuc zero) b = odd_less b ∙ sym (true_differ (is_odd b))
odd_sum (negsuc (suc n)) b =
    let h : negsuc (suc n) +ℤ b ≡ negsuc 0 +ℤ (negsuc n +ℤ b) = omega (arith, ints) in
    let k : negsuc 0 +ℤ negsuc n ≡ negsuc (suc n) = omega (arith, ints) in
    ap is_odd h
    ∙ (odd_less (negsuc n +ℤ b)
    ∙ (ap not (odd_sum (negsuc n) b) ∙ (not_differ (is_odd (negsuc n)) (is_odd b) ∙ ap (λ z. differ z (is_odd b)) (sym (odd_less (negsuc n)) ∙ ap is_odd k))))

module _ (p : RationalPoint) where
  abbrev turns : List Point → ℤ
  turns c = cycle_winding c p

  in_shape_is : (s : List (List Point)) → in_shape s p ≡ is_odd (total turns s)
  in_shape_is [] = refl
  in_shape_is (c ∷ s) = ap (differ (in_contour c p)) (in_shape_is s) ∙ sym (odd_sum (turns c) (total turns s))

  -- ---- points that contours pass straight

  finished_contour : (keep : Bool) (c : List Point) → NeverStays c → in_contour (finished keep c) p ≡ in_contour c p
  finished_contour true c stays = refl
  finished_contour false c stays = ap is_odd (straight_points_dont_wind c p stays)

  finished_shape : (keep : Bool) (s : List (List Point)) → ((c : List Point) → Contains s c → NeverStays c) → in_shape (map (finished keep) s) p ≡ in_shape s p
  finished_shape keep [] stays = refl
  finished_shape keep (c ∷ s) stays =
      ap (λ b. differ b (in_shape (map (finished keep) s) p)) (finished_contour keep c (stays c (Contains-head c s)))
      ∙ ap (differ (in_contour c p)) (finished_shape keep s (λ d here. stays d (Contains-later c s d here)))

  finished_shapes : (keep : Bool) (shapes : List (List (List Point))) → ((s : List (List Point)) → Contains shapes s → (c : List Point) → Contains s c → NeverStays c)
      → in_shapes (map (map (finished keep)) shapes) p ≡ in_shapes shapes p
  finished_shapes keep [] stays = refl
  finished_shapes keep (s ∷ shapes) stays =
      ap (λ b. b || in_shapes (map (map (finished keep)) shapes) p) (finished_shape keep s (stays s (Contains-head s shapes)))
      ∙ ap (λ b. in_shape s p || b) (finished_shapes keep shapes (λ t here. stays t (Contains-later s shapes t here)))

  -- ---- sums of turns one way

  abbrev OneWay : Bool → List (List Point) → Type 0
  OneWay o s = (total turns s ≡ pos 0) ⊎ (total turns s ≡ turns_of o true)

  -- all are none, or the sum has a turn
  abbrev Sums : Bool → Bool → ℤ → Type 0
  Sums o any sum = ((any ≡ false) × (sum ≡ pos 0)) ⊎ ((any ≡ true) × (pos 1 ≤ℤ cond o (neg_ℤ sum) sum))

  one_more : (o b : Bool) (t sum : ℤ) → (t ≡ pos 0) ⊎ (t ≡ turns_of o true) → Sums o b sum → Sums o (is_odd t || b) (t +ℤ sum)
  one_more o b t sum (inl e) (inl (f, g)) = inl (ap (λ z. is_odd z || b) e ∙ f, both t sum e g)
    where
      both : (t s : ℤ) → t ≡ pos 0 → s ≡ pos 0 → t +ℤ s ≡ pos 0
      both t s e g = omega (arith, ints)
  one_more o b t sum (inl e) (inr (f, l)) = inr (ap (λ z. is_odd z || b) e ∙ f, subst (λ z. pos 1 ≤ℤ cond o (neg_ℤ z) z) (same t sum e) l)
    where
      same : (t s : ℤ) → t ≡ pos 0 → s ≡ t +ℤ s
      same t s e = omega (arith, ints)
  one_more true b t sum (inr e) (inl (f, g)) = inr (ap (λ z. is_odd z || b) e, more t sum e g)
    where
      more : (t s : ℤ) → t ≡ negsuc 0 → s ≡ pos 0 → pos 1 ≤ℤ neg_ℤ (t +ℤ s)
      more t s e g = omega (arith, ints)
  one_more true b t sum (inr e) (inr (f, l)) = inr (ap (λ z. is_odd z || b) e, more t sum e l)
    where
      more : (t s : ℤ) → t ≡ negsuc 0 → pos 1 ≤ℤ neg_ℤ s → pos 1 ≤ℤ neg_ℤ (t +ℤ s)
      more t s e l = omega (arith, ints)
  one_more false b t sum (inr e) (inl (f, g)) = inr (ap (λ z. is_odd z || b) e, more t sum e g)
    where
      more : (t s : ℤ) → t ≡ pos 1 → s ≡ pos 0 → pos 1 ≤ℤ (t +ℤ s)
      more t s e g = omega (arith, ints)
  one_more false b t sum (inr e) (inr (f, l)) = inr (ap (λ z. is_odd z || b) e, more t sum e l)
    where
      more : (t s : ℤ) → t ≡ pos 1 → pos 1 ≤ℤ s → pos 1 ≤ℤ (t +ℤ s)
      more t s e l = omega (arith, ints)

  sums : (o : Bool) (shapes : List (List (List Point))) → ((s : List (List Point)) → Contains shapes s → OneWay o s) → Sums o (in_shapes shapes p) (total (total turns) shapes)
  sums o [] one = inl (refl, refl)
  sums o (s ∷ shapes) one =
      subst (λ b. Sums o (b || in_shapes shapes p) (total turns s +ℤ total (total turns) shapes)) (sym (in_shape_is s))
      (one_more o (in_shapes shapes p) (total turns s) (total (total turns) shapes) (one s (Contains-head s shapes)) (sums o shapes (λ t here. one t (Contains-later s shapes t here))))

  decided : (o any r : Bool) (sum : ℤ) → Sums o any sum → sum ≡ turns_of o r → any ≡ r
  decided o any false sum (inl (f, g)) e = f
  decided true any true sum (inl (f, g)) e = absurd (cc (sym g ∙ e))
  decided false any true sum (inl (f, g)) e = absurd (cc (sym g ∙ e))
  decided o any true sum (inr (f, l)) e = f
  decided true any false sum (inr (f, l)) e = absurd (none sum e l)
    where
      none : (s : ℤ) → s ≡ pos 0 → pos 1 ≤ℤ neg_ℤ s → ⊥
      none s e l = omega (arith, ints)
  decided false any false sum (inr (f, l)) e = absurd (none sum e l)
    where
      none : (s : ℤ) → s ≡ pos 0 → pos 1 ≤ℤ s → ⊥
      none s e l = omega (arith, ints)

-- ---- the answer for a boundary

module _ (rings : PointsHaveRings) (node : NodeRing) (walked : AllAreWalked) (sided : AnchorsAreSided) (winds : AnswerWinds) where
  module _ (fill : FillRule) (rule : OverlayRule) (es : List (Entry Count)) (output : Bool) (arranged : IsArrangement es) where
    abbrev walked_contours : List Contour
    walked_contours = cs rings node walked sided winds fill rule es output arranged

    abbrev whole : List (List Point)
    whole = map (λ (c : Contour). c.points) walked_contours

    abbrev all_shapes : List (List (List Point))
    all_shapes = shapes rings node walked sided winds fill rule es output arranged

    pub answer_contains : (keep : Bool) (p : RationalPoint) → IsRational p → in_shapes (answer output keep (borders fill rule es)) p ≡ region fill rule (winding es p)
    answer_contains keep p some =
        finished_shapes p keep all_shapes stays
        ∙ decided p output (in_shapes all_shapes p) (region fill rule (winding es p)) (total (total (turns p)) all_shapes) (sums p output all_shapes one_way) sum
      where
        in_order : IsPermutation whole (all_contours all_shapes)
        in_order = nothing_is_lost (borders fill rule es) walked_contours (walk_holes_are_owned walked sided fill rule es output arranged)

        one_way : (s : List (List Point)) → Contains all_shapes s → OneWay p output s
        one_way s here =
            subst (λ z. (z ≡ pos 0) ⊎ (z ≡ turns_of output true)) (contour_winding_is s p)
            (shapes_wind_or_not rings node walked sided winds fill rule es output arranged s here p some)

        sum : total (total (turns p)) all_shapes ≡ turns_of output (region fill rule (winding es p))
        sum =
            sym (total_flat_map (turns p) (λ (s : List (List Point)). s) all_shapes)
            ∙ (total_permutation (turns p) whole (all_contours all_shapes) in_order
            ∙ (sym (contour_winding_is whole p) ∙ winds fill rule es output p arranged some))

        stays : (s : List (List Point)) → Contains all_shapes s → (c : List Point) → Contains s c → NeverStays c
        stays s here c there =
            let k = map_tells (λ (c : Contour). c.points) walked_contours c
            (Contains-permutation (all_contours all_shapes) whole c (IsPermutation-sym whole (all_contours all_shapes) in_order) (flat_holds (λ (s : List (List Point)). s) all_shapes s c here there)) in
            subst NeverStays k.2
            (All-contains (λ (c : Contour). NeverStays c.points) walked_contours k.0 (have_anchors fill rule es arranged walked_contours (walks_pass_once walked fill rule es output arranged)).go_on k.1)

  module _ (rearranges : (precision : Precision) → Rearranges boolean (redrawn boolean precision)) (ends : (precision : Precision) → RedrawsToTheEnd boolean precision)
      (balanced : (precision : Precision) (es : List (Entry Count)) → IsBalancedMap es → IsBalancedMap (redrawn boolean precision es)) (zero_keeps : ZeroKeepsAll) where
    answer_inside :
        (least greatest : ℤ) (o : Answering) (fill : FillRule) (rule : OverlayRule) (precision : Precision) (held : List (Entry Count)) (p : RationalPoint) →
        IsHeld least greatest held → o.parted ≡ false → o.least ≡ 0 → IsRational p
        → in_shapes (overlay_of o fill rule precision held) p ≡ region fill rule (winding (redrawn_of precision held) p)
    answer_inside least greatest o fill rule precision held p is_held whole none some =
        ap (λ s. in_shapes s p) (zero_keeps o (borders fill rule (redrawn_of precision held)) whole none)
        ∙ answer_contains fill rule (redrawn_of precision held) o.clockwise
        (redrawn_arrangement least greatest precision (rearranges precision) (ends precision) (balanced precision) held is_held) o.keep_all p some

    pub answers_contain : AnswersContain
    answers_contain = record {
      inside = answer_inside;
      told = λ least greatest o fill rule precision held points answers n d e is_held whole none located l off.
          located.told n d e l off ∙ answer_inside least greatest o fill rule precision held _ is_held whole none (omega arith);
    }
