-- Relations and overlays of the same contours.
use Rattle.std.proofs.Common.{◌≡◌, ◌⊎◌, ◌↔◌, inl, inr, ℕ, ◌<◌, ℤ, pos, Bool, true, false, not, ◌&&◌, ◌||◌, nat_lt, List, [], ◌∷◌, ◌++◌, map, flat_map, length, All, Contains, refl, sym, ap, ap₂, ◌∙◌, arith}
use Rattle.std.specs.Prelude.{IfOk}
use Rattle.std.specs.declared.result.Result.{Result}
use Rattle.std.specs.declared.result.Result.TheVariants.{Ok, Err}
use Rattle.std.proofs.lemmas.Bool.{false≢true}
use Rattle.std.proofs.lemmas.List.{length-map, length-append}
use Rattle.std.proofs.lemmas.List.Elements.{All-head, All-contains_itself, All-filter, filter_passes}
use Rattle.std.proofs.lemmas.List.Sorted.{length_permutation}
use Rattle.plane_base.specs.Plane.{Point, RationalPoint}
use Rattle.plane_base.specs.Counts.{Count, Entry, boolean, normal}
use Rattle.plane_base.specs.declared.fault.Fault.{Fault}
use Rattle.plane_base.specs.Regions.{FillRule, OverlayRule, Subject, Intersect, Difference, is_filled, holds, region}
use Rattle.plane_base.specs.Windings.{winding, contour_winding}
use Rattle.plane_base.specs.Balance.{IsBalancedMap}
use Rattle.plane_base.proofs.Facts.Maps.Normal.{normal_is_normal}
use Rattle.plane_base.proofs.Facts.Windings.Sums.{winding_normal}
use Rattle.segment_split.specs.Redrawing.{redrawn}
use Rattle.segment_split.specs.RedrawLaws.{Rearranges, RedrawsToTheEnd}
use Rattle.segment_split.specs.WholeLaws.{WholeMeetingsKeepWindings}
use Rattle.segment_split.specs.declared.solver.Precision.{Precision}
use Rattle.segment_arrangement.specs.EdgeSides.{lower_side, upper_side, is_boundary, boundary, fill_of}
use Rattle.segment_arrangement.specs.Fills.{has}
use Rattle.segment_arrangement.specs.Graphs.{link_of, all_links}
use Rattle.segment_arrangement.specs.SideLaws.{IsArrangement, HasFilledSide, HasBoundary, FilledIsBounded}
use Rattle.segment_arrangement.proofs.Facts.ColumnPlaces.{same_tests}
use Rattle.segment_arrangement.proofs.Facts.GreatestEntry.{Contains-head, Contains-later, Contains-cases}
use Rattle.segment_arrangement.proofs.Facts.LiveLists.{Contains-filter}
use Rattle.contour_walk.specs.Answering.{Answering, answer_with}
use Rattle.contour_walk.specs.Orderly.{IsInPlace, shape, AnswersAreOrderly}
use Rattle.contour_walk.specs.Shapes.{finished}
use Rattle.contour_walk.specs.WalkLaws.{border_of, borders, step_along, contour_steps}
use Rattle.contour_walk.specs.BindingLaws.{all_contours}
use Rattle.polygon_overlay.specs.Builders.{IsHeld}
use Rattle.polygon_overlay.specs.GivenLaws.{HeldWindsAsGiven}
use Rattle.polygon_overlay.specs.Overlays.{redrawn_of, MeetsWhole}
use Rattle.polygon_overlay.specs.OverlayLaws.{HoldsContours}
use Rattle.polygon_overlay.specs.Predicates.{is_common, is_inside, some, each}
use Rattle.polygon_overlay.specs.RelationLaws.{has_contour, AgreesWithOverlays, PredicatesAgreeWithOverlays}
use Rattle.polygon_overlay.proofs.Answering.ArrangementLaws.{redrawn_arrangement}
use Rattle.polygon_overlay.proofs.Relating.RelationLaws.{bits}
use Rattle.plane_base.proofs.Facts.Crossings.Tests.{one_true}

-- ---- a rule on the two sides of an edge, by its fill

-- what a rule says of either side
abbrev on_some_side : OverlayRule → Bool → Bool → Bool → Bool → Bool
on_some_side rule a b c d = holds rule b d || holds rule a c

bits_tell : (a b c d : Bool) → (is_common (bits a b c d) ≡ on_some_side Intersect a b c d) × (has 3 (bits a b c d) ≡ on_some_side Subject a b c d)
    × (not (is_inside (bits a b c d)) ≡ on_some_side Difference a b c d)
bits_tell true true true true = (refl, refl, refl)
bits_tell true true true false = (refl, refl, refl)
bits_tell true true false true = (refl, refl, refl)
bits_tell true true false false = (refl, refl, refl)
bits_tell true false true true = (refl, refl, refl)
bits_tell true false true false = (refl, refl, refl)
bits_tell true false false true = (refl, refl, refl)
bits_tell true false false false = (refl, refl, refl)
bits_tell false true true true = (refl, refl, refl)
bits_tell false true true false = (refl, refl, refl)
bits_tell false true false true = (refl, refl, refl)
bits_tell false true false false = (refl, refl, refl)
bits_tell false false true true = (refl, refl, refl)
bits_tell false false true false = (refl, refl, refl)
bits_tell false false false true = (refl, refl, refl)
bits_tell false false false false = (refl, refl, refl)

some_holds : (b c : Bool) → (b ≡ true) ⊎ (c ≡ true) → b || c ≡ true
some_holds true c h = refl
some_holds false c (inl h) = absurd (false≢true h)
some_holds false c (inr h) = h

-- ---- links and sides

module _ (fill : FillRule) (rule : OverlayRule) (test : ℕ → Bool) (tells : (a b c d : Bool) → test (bits a b c d) ≡ on_some_side rule a b c d) (es : List (Entry Count)) where
  abbrev IsOnSide : Entry Count → Type 0
  IsOnSide e = (region fill rule (lower_side es e.edge) ≡ true) ⊎ (region fill rule (upper_side es e) ≡ true)

  by_sides : (e : Entry Count) → test (fill_of fill es e) ≡ region fill rule (lower_side es e.edge) || region fill rule (upper_side es e)
  by_sides e =
      tells (is_filled fill (upper_side es e).subject) (is_filled fill (lower_side es e.edge).subject) (is_filled fill (upper_side es e).clip)
      (is_filled fill (lower_side es e.edge).clip)

  side_of_some : (fs : List (Entry Count)) → some test (map (link_of fill es) fs) ≡ true → (e : Entry Count) × Contains fs e × IsOnSide e
  side_of_some [] h = absurd (false≢true h)
  side_of_some (f ∷ fs) h = by (one_true (test (fill_of fill es f)) (some test (map (link_of fill es) fs)) h) (side_of_some fs)
    where
      by : (test (fill_of fill es f) ≡ true) ⊎ (some test (map (link_of fill es) fs) ≡ true)
          → (some test (map (link_of fill es) fs) ≡ true → (e : Entry Count) × Contains fs e × IsOnSide e) → (e : Entry Count) × Contains (f ∷ fs) e × IsOnSide e
      by (inl here) rest = (
        f,
        Contains-head f fs,
        one_true (region fill rule (lower_side es f.edge)) (region fill rule (upper_side es f)) (sym (by_sides f) ∙ here),
      )
      by (inr later) rest = let found = rest later in (found.0, Contains-later f fs found.0 found.1, found.2)

  some_of_side : (fs : List (Entry Count)) (e : Entry Count) → Contains fs e → IsOnSide e → some test (map (link_of fill es) fs) ≡ true
  some_of_side [] e here on = absurd (omega (arith, here.1))
  some_of_side (f ∷ fs) e here on = by (Contains-cases f fs e here) (λ later. some_of_side fs e later on)
    where
      by : (f ≡ e) ⊎ Contains fs e → (Contains fs e → some test (map (link_of fill es) fs) ≡ true) → some test (map (link_of fill es) (f ∷ fs)) ≡ true
      by (inl same) rest =
          some_holds (test (fill_of fill es f)) (some test (map (link_of fill es) fs))
          (inl (ap (λ g. test (fill_of fill es g)) same ∙ (by_sides e ∙ some_holds (region fill rule (lower_side es e.edge)) (region fill rule (upper_side es e)) on)))
      by (inr later) rest = some_holds (test (fill_of fill es f)) (some test (map (link_of fill es) fs)) (inr (rest later))

  -- some link passes just where the region is on a side of an edge
  some_is_filled : (some test (all_links fill es) ≡ true) ↔ HasFilledSide fill rule es
  some_is_filled = (side_of_some es, λ h. some_of_side es h.0 h.1 h.2)

-- ---- contours and what bounds

-- a list with an element is not empty, and the other way round
some_bounds : (fill : FillRule) (rule : OverlayRule) (es : List (Entry Count)) → (nat_lt 0 (length (boundary fill rule es)) ≡ true) ↔ HasBoundary fill rule es
some_bounds fill rule es = (
  λ h. by (boundary fill rule es) h (All-filter (is_boundary fill rule es) (Contains es) es (All-contains_itself es)) (filter_passes (is_boundary fill rule es) es),
  λ h. there (boundary fill rule es) h.0 (Contains-filter (is_boundary fill rule es) es h.0 h.1 h.2),
)
  where
    by : (fs : List (Entry Count)) → nat_lt 0 (length fs) ≡ true → All (Contains es) fs → All (λ e. is_boundary fill rule es e ≡ true) fs → HasBoundary fill rule es
    by [] h held bound = absurd (false≢true h)
    by (f ∷ fs) h held bound = (f, All-head (Contains es) f fs held, All-head (λ e. is_boundary fill rule es e ≡ true) f fs bound)

    there : (fs : List (Entry Count)) (e : Entry Count) → Contains fs e → nat_lt 0 (length fs) ≡ true
    there [] e here = absurd (omega (arith, here.1))
    there (f ∷ fs) e here = grind arith

steps_of_some : (c : List Point) → 0 < length c → 0 < length (contour_steps c)
steps_of_some [] h = absurd (omega (arith, h))
steps_of_some (p ∷ []) h = omega arith
steps_of_some (p ∷ r ∷ rest) h = omega arith

positive : (n : ℕ) → 0 < n → nat_lt 0 n ≡ true
positive n h = grind arith

-- the steps of shapes in place: some just where there is a shape
has_steps : (output keep_all : Bool) (full : List (List (List Point))) → All (IsInPlace output) full
    → has_contour (map (map (finished keep_all)) full) ≡ nat_lt 0 (length (flat_map contour_steps (all_contours full)))
has_steps output keep_all [] places = refl
has_steps output keep_all (s ∷ full) places = by s (All-head (IsInPlace output) s full places)
  where
    by : (s : List (List Point)) → IsInPlace output s
        → has_contour (map (map (finished keep_all)) (s ∷ full)) ≡ nat_lt 0 (length (flat_map contour_steps (all_contours (s ∷ full))))
    by s (shape [] holes least others) = let none = least (record { x = pos 0; y = pos 0 }) in absurd (cc)
    by s (shape (p ∷ rest) holes least others) =
        positive (length (finished keep_all (p ∷ rest) ∷ (map (finished keep_all) holes ++ all_contours (map (map (finished keep_all)) full)))) (omega arith)
        ∙ sym (positive (length (contour_steps (p ∷ rest) ++ flat_map contour_steps (holes ++ all_contours full)))
        (omega (arith, length-append (contour_steps (p ∷ rest)) (flat_map contour_steps (holes ++ all_contours full)), steps_of_some (p ∷ rest) (omega arith))))

-- the answer has a contour just where something bounds
contour_is_bound :
    AnswersAreOrderly → (o : Answering) (fill : FillRule) (rule : OverlayRule) (es : List (Entry Count)) → IsArrangement es → o.least ≡ 0
    → has_contour (answer_with o (borders fill rule es)) ≡ nat_lt 0 (length (boundary fill rule es))
contour_is_bound law o fill rule es arranged none =
    let told = law o fill rule es arranged none in
    ap has_contour told.is
    ∙ (has_steps o.clockwise o.keep_all told.full told.places
    ∙ ap (nat_lt 0)
    (length_permutation (map (step_along o.clockwise) (borders fill rule es)) (flat_map contour_steps (all_contours told.full)) told.passed
    ∙ (length-map (borders fill rule es) (step_along o.clockwise) ∙ length-map (boundary fill rule es) (border_of fill rule es))))

has_contour_where : AnswersAreOrderly → (o : Answering) (fill : FillRule) (rule : OverlayRule) (es : List (Entry Count)) → IsArrangement es → o.least ≡ 0
    → (has_contour (answer_with o (borders fill rule es)) ≡ true) ↔ HasBoundary fill rule es
has_contour_where law o fill rule es arranged none =
    let same = contour_is_bound law o fill rule es arranged none in
    (λ h. (some_bounds fill rule es).0 (sym same ∙ h), λ h. same ∙ (some_bounds fill rule es).1 h)

-- ---- one test, over a map, and the overlay of another map in which the region is somewhere just where it is in the first

module _ (bounded : FilledIsBounded) (orderly : AnswersAreOrderly) (o : Answering) (none : o.least ≡ 0) (fill : FillRule) (es fs : List (Entry Count))
    (arranged : IsArrangement es) (other_arranged : IsArrangement fs)
    (alike : (rule : OverlayRule) → HasBoundary fill rule es ↔ HasBoundary fill rule fs) where
  test_agrees : (rule : OverlayRule) (test : ℕ → Bool) → ((a b c d : Bool) → test (bits a b c d) ≡ on_some_side rule a b c d)
      → some test (all_links fill es) ≡ has_contour (answer_with o (borders fill rule fs))
  test_agrees rule test tells =
      same_tests (some test (all_links fill es)) (has_contour (answer_with o (borders fill rule fs)))
      (λ h. (has_contour_where orderly o fill rule fs other_arranged none).1
      ((alike rule).0 ((bounded.sides fill rule es arranged).0 ((some_is_filled fill rule test tells es).0 h))))
      (λ h. (some_is_filled fill rule test tells es).1 ((bounded.sides fill rule es arranged).1
      ((alike rule).1 ((has_contour_where orderly o fill rule fs other_arranged none).0 h))))

  not_twice : (b : Bool) → not (not b) ≡ b
  not_twice true = refl
  not_twice false = refl

  -- all pass where none fails
  all_but : (test : ℕ → Bool) (links : List _) → each test links ≡ not (some (λ n. not (test n)) links)
  all_but test [] = refl
  all_but test (l ∷ links) = by (test l.fill) (each test links) (some (λ n. not (test n)) links) (all_but test links)
    where
      by : (b c d : Bool) → c ≡ not d → b && c ≡ not (not b || d)
      by true c d h = h
      by false c d h = refl

  maps_agree : AgreesWithOverlays (all_links fill es) (λ rule. answer_with o (borders fill rule fs))
  maps_agree = record {
    of_interiors = test_agrees Intersect is_common (λ a b c d. (bits_tell a b c d).0);
    of_within =
        ap₂ (λ b c. b && c) (test_agrees Subject (has 3) (λ a b c d. (bits_tell a b c d).1))
        (all_but is_inside (all_links fill es) ∙ ap not (test_agrees Difference (λ n. not (is_inside n)) (λ a b c d. (bits_tell a b c d).2)));
  }

-- ---- calls

-- an answer that is one of two equal tests is the other
pub is_told : (result : Result Bool Fault) (entry told : Bool) → entry ≡ told → IfOk result (λ answer. answer ≡ entry) → IfOk result (λ answer. answer ≡ told)
is_told (Ok b) entry told same is = is ∙ same
is_told (Err e) entry told same is = tt

-- ---- builders

module _ (rearranges : (precision : Precision) → Rearranges boolean (redrawn boolean precision)) (ends : (precision : Precision) → RedrawsToTheEnd boolean precision)
    (balanced : (precision : Precision) (es : List (Entry Count)) → IsBalancedMap es → IsBalancedMap (redrawn boolean precision es))
    (bounded : FilledIsBounded) (orderly : AnswersAreOrderly) where
  arranged_for : (least greatest : ℤ) (precision : Precision) (held : List (Entry Count)) → IsHeld least greatest held → IsArrangement (redrawn_of precision held)
  arranged_for least greatest precision held is_held =
      redrawn_arrangement least greatest precision (rearranges precision) (ends precision) (balanced precision) held is_held

  -- the windings of what is held, redrawn, where edges cross at whole points
  module _ (keep : WholeMeetingsKeepWindings) (winds : HeldWindsAsGiven) where
    pub winds_as_contours :
        (least greatest : ℤ) (keep_all : Bool) (subjects clips : List (List Point)) (held : List (Entry Count)) (precision : Precision) (p : RationalPoint) →
        HoldsContours keep_all subjects clips held → IsHeld least greatest held → MeetsWhole held
        → winding (redrawn_of precision held) p ≡ record { subject = contour_winding subjects p; clip = contour_winding clips p }
    winds_as_contours least greatest keep_all subjects clips held precision p h is_held whole =
        keep.redrawn_winds precision (normal boolean held) p (normal_is_normal boolean held is_held.directed) whole
        ∙ (winding_normal held p ∙ winds keep_all subjects clips held p h)

    -- the region is somewhere in the one map just where it is in the other
    goes_over : (fill : FillRule) (rule : OverlayRule) (es fs : List (Entry Count)) → IsArrangement es → IsArrangement fs → ((p : RationalPoint) → winding es p ≡ winding fs p)
        → HasBoundary fill rule es → HasBoundary fill rule fs
    goes_over fill rule es fs arranged other_arranged same h =
        let p = (bounded.points fill rule es arranged).1 h in
        (bounded.points fill rule fs other_arranged).0 (p.0, p.1, ap (region fill rule) (sym (same p.0)) ∙ p.2)

    pub predicates_agree_with_overlays : PredicatesAgreeWithOverlays
    predicates_agree_with_overlays = record {
      of_one = λ least greatest o fill precision held is_held none.
          let arranged = arranged_for least greatest precision held is_held in
          maps_agree bounded orderly o none fill (redrawn_of precision held) (redrawn_of precision held) arranged arranged (λ rule. (λ h. h, λ h. h));
      of_two = λ least greatest other_least other_greatest keep_all other_keeps_all subjects clips held other h k is_held other_is_held whole other_whole o fill precision other_precision none.
          let es = redrawn_of precision held in
          let fs = redrawn_of other_precision other in
          let arranged = arranged_for least greatest precision held is_held in
          let other_arranged = arranged_for other_least other_greatest other_precision other other_is_held in
          let same : (p : RationalPoint) → winding es p ≡ winding fs p = λ p.
          winds_as_contours least greatest keep_all subjects clips held precision p h is_held whole
          ∙ sym (winds_as_contours other_least other_greatest other_keeps_all subjects clips other other_precision p k other_is_held other_whole) in
          maps_agree bounded orderly o none fill es fs arranged other_arranged
          (λ rule. (goes_over fill rule es fs arranged other_arranged same, goes_over fill rule fs es other_arranged arranged (λ p. sym (same p))));
    }
