-- What is handed back crosses at whole points alone, so it winds as it did.
use Rattle.std.proofs.Common.{◌≡◌, ◌≢◌, ℤ, Bool, true, false, cond, List, [], ◌∷◌, map, flat_map, get_or, All, Contains, refl, sym, ap, ◌∙◌, subst}
use Rattle.std.specs.List.{AllZip}
use Rattle.std.specs.declared.cmp.Ordering.{Ordering}
use Rattle.std.specs.declared.cmp.Ordering.TheVariants.{Less, Equal, Greater}
use Rattle.std.proofs.lemmas.List.Elements.{All-nil, All-cons, All-head, All-tail, All-append, All-map, All-contains, All-contains_itself}
use Rattle.plane_base.specs.Plane.{Point, Edge, is_before, point_order}
use Rattle.plane_base.specs.Balance.{IsBalancedMap}
use Rattle.plane_base.specs.Counts.{Count, Entry, boolean, one_subject, one_clip, normal}
use Rattle.plane_base.specs.Given.{laid}
use Rattle.plane_base.specs.Regions.{FillRule, NonZero, OverlayRule, Subject, is_filled, region}
use Rattle.plane_base.specs.Segments.{parted}
use Rattle.plane_base.specs.Thinning.{IsThinned}
use Rattle.plane_base.specs.Windings.{winding, contour_winding}
use Rattle.plane_base.proofs.Facts.Maps.Laying.{lay_by}
use Rattle.plane_base.proofs.Facts.Maps.Normal.{normal_edges, normal_is_normal}
use Rattle.plane_base.proofs.Facts.Points.Turns.{turn_there_and_back, turn_end_twice}
use Rattle.segment_split.specs.Adding.{IsTaken}
use Rattle.segment_split.specs.Redrawing.{redrawn}
use Rattle.segment_split.specs.RedrawLaws.{Rearranges, RedrawsToTheEnd}
use Rattle.segment_split.specs.WholeLaws.{WholeMeetingsKeepWindings}
use Rattle.segment_split.specs.declared.solver.Precision.{Precision}
use Rattle.segment_arrangement.specs.SideLaws.{IsArrangement, FilledIsBounded}
use Rattle.segment_arrangement.proofs.Facts.ConstantSides.{Contains-map}
use Rattle.contour_walk.specs.Answering.{answer_with}
use Rattle.contour_walk.specs.AnswerLaws.{AnswersWind}
use Rattle.contour_walk.specs.BindingLaws.{all_contours, CornersStay, PassOnce}
use Rattle.contour_walk.specs.Orderly.{AreOrderly, AnswersAreOrderly}
use Rattle.contour_walk.specs.Shapes.{without_straight, finished}
use Rattle.contour_walk.specs.Walks.{Contour, between, contour_edges}
use Rattle.contour_walk.specs.WalkLaws.{borders, contour_steps, turns_of}
use Rattle.contour_walk.proofs.Binding.Passed.{any_two, clean}
use Rattle.contour_walk.proofs.Binding.Walks.{edge_of, edges_by_steps}
use Rattle.contour_walk.proofs.Facts.Binding.Lists.{map_tells, flat_holds, flat_tells}
use Rattle.polygon_overlay.specs.Builders.{IsHeld}
use Rattle.polygon_overlay.specs.GivenLaws.{HeldWindsAsGiven}
use Rattle.polygon_overlay.specs.Overlays.{redrawn_of, MeetsWhole}
use Rattle.polygon_overlay.specs.OverlayLaws.{HoldsContours}
use Rattle.polygon_overlay.specs.ReturnLaws.{AnswersComeBackWinding}
use Rattle.polygon_overlay.proofs.Relating.AgreementLaws.{winds_as_contours}
use Rattle.polygon_overlay.proofs.Answering.AreaLaws.{all_mapped}
use Rattle.polygon_overlay.proofs.Answering.ArrangementLaws.{redrawn_arrangement}
use Rattle.polygon_overlay.proofs.Holding.GivenOrderLaws.{laid_of, normal_held}
use Rattle.polygon_overlay.proofs.Returning.ReturnLaws.{as_contour, pass_once, in_place_some, lay_step, all_laid_by_steps, once_is_filled}
use Rattle.polygon_overlay.proofs.Returning.RunLaws.{lies_back, IsAlong, IsRun, run_back, AreRuns, thinned_runs, runs_meet_whole}

-- ---- what runs along a boundary

module _ (fill : FillRule) (rule : OverlayRule) (es : List (Entry Count)) (output : Bool) (contours : List (List Point)) (arranged : IsArrangement es)
    (cs : List Contour) (are : cs ≡ map as_contour contours) (passed : PassOnce (borders fill rule es) cs) where
  abbrev E : Edge → Type 0
  E s = Contains (flat_map (λ c. contour_edges c.points) cs) s

  directed : (s : Edge) → E s → is_before s.a s.b ≡ true
  directed s here =
      let c = flat_tells (λ (c : Contour). contour_edges c.points) cs s here in
      All-contains (λ (s : Edge). is_before s.a s.b ≡ true) (contour_edges c.0.points) s (clean fill rule es arranged cs passed c.0 c.1).directed c.2

  apart : (s t : Edge) → E s → E t → s ≢ t → parted s t ≡ true
  apart s t here there = any_two fill rule es arranged cs passed s t here there

  listed : (c : List Point) → Contains contours c → Contains cs (as_contour c)
  listed c here = subst (λ ds. Contains ds (as_contour c)) (sym are) (Contains-map as_contour contours c here)

  -- a step runs along its own edge
  step_runs : (u v : Point) → E (between u v) → IsRun E u v
  step_runs u v here differ p lies = by (is_before v u) here
    where
      by : (b : Bool) → E (cond b (record { a = v; b = u }) (record { a = u; b = v })) → IsAlong E u v p
      by true one = record { edge = record { a = v; b = u }; one = one; on = lies_back u v p lies; first = turn_end_twice u v; second = turn_there_and_back u v }
      by false one = record { edge = record { a = u; b = v }; one = one; on = lies; first = turn_there_and_back u v; second = turn_end_twice u v }

  contour_runs : (c : List Point) → Contains contours c → AreRuns E (contour_steps c)
  contour_runs c here i d l =
      let s = get_or (contour_steps c) i d in
      step_runs s.a s.b
      (flat_holds (λ (c : Contour). contour_edges c.points) cs (as_contour c) (edge_of s) (listed c here)
      (subst (λ ss. Contains ss (edge_of s)) (edges_by_steps c) (Contains-map edge_of (contour_steps c) s (All-contains_itself (contour_steps c) i d l))))

  finished_runs : CornersStay → (keep_all : Bool) (c : List Point) → Contains contours c → AreRuns E (contour_steps (finished keep_all c))
  finished_runs law true c here = contour_runs c here
  finished_runs law false c here =
      thinned_runs E c (without_straight c)
      (All-contains (λ (c : Contour). IsThinned c.points (without_straight c.points)) cs (as_contour c) (law.thinned fill rule es cs arranged passed) (listed c here))
      (contour_runs c here)

  abbrev Runs : List Point → Type 0
  Runs c = AreRuns E (contour_steps c)

  all_finished : CornersStay → (keep_all : Bool) → All Runs (map (finished keep_all) contours)
  all_finished law keep_all = All-map Runs (finished keep_all) contours (λ i d l. finished_runs law keep_all (get_or contours i d) (All-contains_itself contours i d l))

  taken_runs : (keep_all : Bool) (given taken : List (List Point)) → AllZip (IsTaken keep_all) given taken → All Runs given → All Runs taken
  taken_runs keep_all [] [] zip h = All-nil Runs
  taken_runs keep_all [] (y ∷ ys) zip h = absurd zip
  taken_runs keep_all (x ∷ xs) [] zip h = absurd zip
  taken_runs keep_all (x ∷ xs) (y ∷ ys) zip h =
      All-cons Runs y ys (one keep_all zip.0 (All-head Runs x xs h)) (taken_runs keep_all xs ys zip.1 (All-tail Runs x xs h))
    where
      one : (keep : Bool) → IsTaken keep x y → Runs x → Runs y
      one true same runs = subst Runs (sym same) runs
      one false thinned runs = thinned_runs E x y thinned runs

  -- ---- what such contours lay

  abbrev RunsAlong : Entry Count → Type 0
  RunsAlong e = IsRun E e.edge.a e.edge.b

  step_lays : (s : Edge) → IsRun E s.a s.b → All RunsAlong (lay_step s)
  step_lays s h = by (point_order s.a s.b)
    where
      by : (o : Ordering) → All RunsAlong (lay_by boolean o s.a s.b one_subject)
      by Less = All-cons RunsAlong _ [] h (All-nil RunsAlong)
      by Equal = All-nil RunsAlong
      by Greater = All-cons RunsAlong _ [] (run_back E s.a s.b h) (All-nil RunsAlong)

  steps_lay : (ss : List Edge) → AreRuns E ss → All RunsAlong (flat_map lay_step ss)
  steps_lay [] h = All-nil RunsAlong
  steps_lay (s ∷ ss) h =
      All-append RunsAlong (lay_step s) (flat_map lay_step ss) (step_lays s (All-head (λ (s : Edge). IsRun E s.a s.b) s ss h))
      (steps_lay ss (All-tail (λ (s : Edge). IsRun E s.a s.b) s ss h))

  all_steps : (ds : List (List Point)) → All Runs ds → AreRuns E (flat_map contour_steps ds)
  all_steps [] h = All-nil (λ (s : Edge). IsRun E s.a s.b)
  all_steps (d ∷ ds) h =
      All-append (λ (s : Edge). IsRun E s.a s.b) (contour_steps d) (flat_map contour_steps ds) (All-head Runs d ds h) (all_steps ds (All-tail Runs d ds h))

  contours_lay : (ds : List (List Point)) → All Runs ds → All RunsAlong (flat_map (laid boolean one_subject) ds)
  contours_lay ds h = subst (All RunsAlong) (sym (all_laid_by_steps ds)) (steps_lay (flat_map contour_steps ds) (all_steps ds h))

  no_clips : (keep_all : Bool) (taken : List (List Point)) → AllZip (IsTaken keep_all) [] taken → taken ≡ []
  no_clips keep_all [] zip = refl
  no_clips keep_all (y ∷ ys) zip = absurd zip

  -- so what is held of them crosses at whole points alone
  held_meets_whole :
      (keep_all : Bool) (given : List (List Point)) (again : List (Entry Count)) → All (λ e. is_before e.edge.a e.edge.b ≡ true) again →
      All Runs given → HoldsContours keep_all given [] again → MeetsWhole again
  held_meets_whole keep_all given again forth runs h s t here there =
      let e = map_tells (λ (e : Entry Count). e.edge) (normal boolean again) s here in
      let f = map_tells (λ (e : Entry Count). e.edge) (normal boolean again) t there in
      runs_meet_whole E directed apart s t (way s e) (way t f) (along s e) (along t f)
    where
      laid_runs : All RunsAlong (normal boolean (laid_of h.taken_subjects h.taken_clips))
      laid_runs =
          normal_edges boolean (λ (s : Edge). IsRun E s.a s.b) (laid_of h.taken_subjects h.taken_clips)
          (All-append RunsAlong (flat_map (laid boolean one_subject) h.taken_subjects) (flat_map (laid boolean one_clip) h.taken_clips)
          (contours_lay h.taken_subjects (taken_runs keep_all given h.taken_subjects h.are_subjects runs))
          (subst (λ ds. All RunsAlong (flat_map (laid boolean one_clip) ds)) (sym (no_clips keep_all h.taken_clips h.are_clips)) (All-nil RunsAlong)))

      all_runs : All RunsAlong (normal boolean again)
      all_runs = subst (All RunsAlong) (sym (normal_held keep_all given [] again h)) laid_runs

      along : (s : Edge) → (e : Entry Count) × Contains (normal boolean again) e × (e.edge ≡ s) → IsRun E s.a s.b
      along s (e, here, same) = subst (λ (s : Edge). IsRun E s.a s.b) same (All-contains RunsAlong (normal boolean again) e all_runs here)

      way : (s : Edge) → (e : Entry Count) × Contains (normal boolean again) e × (e.edge ≡ s) → is_before s.a s.b ≡ true
      way s (e, here, same) =
          subst (λ (s : Edge). is_before s.a s.b ≡ true) same
          (All-contains (λ (e : Entry Count). is_before e.edge.a e.edge.b ≡ true) (normal boolean again) e (normal_is_normal boolean again forth).directed here)

-- ---- answers

module _ (rearranges : (precision : Precision) → Rearranges boolean (redrawn boolean precision)) (ends : (precision : Precision) → RedrawsToTheEnd boolean precision)
    (balanced : (precision : Precision) (es : List (Entry Count)) → IsBalancedMap es → IsBalancedMap (redrawn boolean precision es))
    (bounded : FilledIsBounded) (orderly : AnswersAreOrderly) (wind : AnswersWind) (corners : CornersStay) (keep : WholeMeetingsKeepWindings) (winds : HeldWindsAsGiven) where
  pub answers_come_back_winding : AnswersComeBackWinding
  answers_come_back_winding least greatest other_least other_greatest keep_all o other fill rule precision other_precision held again p is_held again_held none other_none turn_alike h some =
      wind other NonZero Subject fs (arranged_for other_least other_greatest other_precision again again_held) other_none p some
      ∙ (ap (λ c. turns_of c (region NonZero Subject (winding fs p))) turn_alike
      ∙ (ap (λ w. turns_of o.clockwise (region NonZero Subject w)) (winds_as_contours rearranges ends balanced bounded orderly keep winds other_least other_greatest keep_all answer_contours [] again other_precision p h again_held whole)
      ∙ (ap (λ n. turns_of o.clockwise (is_filled NonZero n)) first
      ∙ (ap (turns_of o.clockwise) (once_is_filled o.clockwise (region fill rule (winding es p))) ∙ sym first))))
    where
      arranged_for : (least greatest : ℤ) (precision : Precision) (held : List (Entry Count)) → IsHeld least greatest held → IsArrangement (redrawn_of precision held)
      arranged_for least greatest precision held is_held = redrawn_arrangement least greatest precision (rearranges precision) (ends precision) (balanced precision) held is_held

      es : List (Entry Count)
      es = redrawn_of precision held

      fs : List (Entry Count)
      fs = redrawn_of other_precision again

      arranged : IsArrangement es
      arranged = arranged_for least greatest precision held is_held

      told : AreOrderly o.clockwise o.keep_all (borders fill rule es) (answer_with o (borders fill rule es))
      told = orderly o fill rule es arranged none

      answer_contours : List (List Point)
      answer_contours = all_contours (answer_with o (borders fill rule es))

      are_finished : answer_contours ≡ map (finished o.keep_all) (all_contours told.full)
      are_finished = ap all_contours told.is ∙ all_mapped (finished o.keep_all) told.full

      first : contour_winding answer_contours p ≡ turns_of o.clockwise (region fill rule (winding es p))
      first = wind o fill rule es arranged none p some

      passed : PassOnce (borders fill rule es) (map as_contour (all_contours told.full))
      passed = pass_once fill rule es o.clockwise (all_contours told.full) arranged told.passed (in_place_some o.clockwise told.full told.places)

      whole : MeetsWhole again
      whole =
          held_meets_whole fill rule es o.clockwise (all_contours told.full) arranged (map as_contour (all_contours told.full)) refl
          passed keep_all answer_contours again again_held.directed
          (subst (All (Runs fill rule es o.clockwise (all_contours told.full) arranged (map as_contour (all_contours told.full)) refl passed)) (sym are_finished) (all_finished fill rule es o.clockwise (all_contours told.full) arranged (map as_contour (all_contours told.full)) refl passed corners o.keep_all))
          h
