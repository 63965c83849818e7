-- The overlays of sizing, put together.
use Rattle.std.proofs.Common.{◌≡◌, Result, Ok, Err, IfErr, IsOkUnless, List, [], All, ℤ, sym, ap, ◌∙◌, subst}
use Rattle.std.proofs.lemmas.List.Elements.{All-nil}
use Rattle.plane_base.specs.Plane.{Point, IsWithin}
use Rattle.plane_base.specs.Counts.{Count, Entry, boolean, one_subject}
use Rattle.plane_base.specs.Regions.{FillRule, Positive, Subject}
use Rattle.plane_base.specs.declared.fault.Fault.{Fault}
use Rattle.plane_base.specs.declared.fault.Fault.TheVariants.{Memory}
use Rattle.segment_split.specs.Adding.{AddsAll}
use Rattle.segment_split.specs.declared.solver.Precision.{Precision}
use Rattle.segment_split.specs.declared.solver.Solver.{Solver}
use Rattle.contour_walk.specs.Answering.{answering_of}
use Rattle.contour_walk.specs.BindingLaws.{all_contours}
use Rattle.contour_walk.specs.ShapeViews.{is_clockwise}
use Rattle.contour_walk.specs.declared.options.IntOverlayOptions.{IntOverlayOptions}
use Rattle.polygon_overlay.specs.Asking.{IsAnswered}
use Rattle.polygon_overlay.specs.Builders.{default_options}
use Rattle.polygon_overlay.specs.Calls.{AreInRange}
use Rattle.polygon_overlay.specs.FlatCalls.{flat_overlay_of}
use Rattle.polygon_overlay.specs.OverlayLaws.{HoldsContours, HoldingGoesOn, SourcesAreHeld}
use Rattle.polygon_overlay.specs.Overlays.{once}
use Rattle.polygon_overlay.specs.Simplified.{IsNotSimplified}
use Rattle.polygon_overlay.specs.Sizing.{Amounts, IsSized, IsFilledBy, WindWhere}
use Rattle.polygon_overlay.specs.SizingCalls.{AreSized, AreSizedInTurn}
use Rattle.polygon_overlay.specs.SizingLaws.{HoldsAlone, IsRegionOf, IsMovedTo, AreMoved, HoldsMoved, IsSizedMap, MovedFillTheSized, SizedIsTheNeighbourhood}
use Rattle.polygon_overlay.specs.Tiles.{AreRectilinear}
use Rattle.polygon_overlay.proofs.Sized.InTurn.{sized_by_alike, wind_alike}

-- what a builder with the same options refuses contours for
pub region_refused : (options its_options : IntOverlayOptions) (solver its_solver : Solver) (contours : List (List Point)) (fault its : Fault)
    → its_options ≡ options
    → its_solver ≡ solver → its ≡ fault → IsNotSimplified its_options.preserve_input_collinear its_solver.precision contours fault
    → IsNotSimplified options.preserve_input_collinear solver.precision contours its
region_refused options its_options solver its_solver contours fault its e f g why =
    subst (IsNotSimplified options.preserve_input_collinear solver.precision contours) (sym g)
    (subst (λ (o : IntOverlayOptions). IsNotSimplified o.preserve_input_collinear solver.precision contours fault) e
    (subst (λ (s : Solver). IsNotSimplified its_options.preserve_input_collinear s.precision contours fault) f why))

-- where memory alone is refused
pub only_memory : {T : Type 0} {P : Fault → Type 0} (r : Result T Fault) → ((fault : Fault) → fault ≡ Memory → P fault) → IsOkUnless r Memory → IfErr r P
only_memory (Ok t) f h = tt
only_memory (Err e) f h = f e h

module _ (least greatest : ℤ) where
  -- ---- one overlay

  module _ (goes_on : HoldingGoesOn) (are_held : SourcesAreHeld) (options its_options : IntOverlayOptions) (solver its_solver : Solver) (fill : FillRule)
      (contours : List (List Point)) where
    -- what a new builder holds of contours in range
    alone_held : (held : List (Entry Count)) → AreInRange least greatest contours → its_options ≡ options
        → AddsAll boolean one_subject its_options.preserve_input_collinear contours [] held
        → HoldsAlone least greatest options.preserve_input_collinear contours held
    alone_held held in_range e adds = record {
      holds = holds;
      is_held = are_held least greatest options.preserve_input_collinear contours [] held in_range (All-nil (All (IsWithin least greatest))) holds;
    }
      where
        holds : HoldsContours options.preserve_input_collinear contours [] held
        holds =
            goes_on.of_subjects options.preserve_input_collinear [] [] contours [] held (goes_on.of_none options.preserve_input_collinear)
            (subst (λ (o : IntOverlayOptions). AddsAll boolean one_subject o.preserve_input_collinear contours [] held) e adds)

    -- and answers for them
    pub shapes_answered : (shapes : List (List (List Point))) (held : List (Entry Count)) → AreInRange least greatest contours → its_options ≡ options
        → its_solver ≡ solver → AddsAll boolean one_subject its_options.preserve_input_collinear contours [] held
        → IsAnswered least greatest its_options fill Subject its_solver.precision held shapes
        → (held : List (Entry Count)) × HoldsAlone least greatest options.preserve_input_collinear contours held
        × IsAnswered least greatest options fill Subject solver.precision held shapes
    shapes_answered shapes held in_range e f adds is = (
      held,
      alone_held held in_range e adds,
      subst (λ o. IsAnswered least greatest o fill Subject solver.precision held shapes) e
          (subst (λ s. IsAnswered least greatest its_options fill Subject s.precision held shapes) f is),
    )

  -- the contours of a region, by corners alone
  pub region_is : (goes_on : HoldingGoesOn) (are_held : SourcesAreHeld) (its_options : IntOverlayOptions) (solver its_solver : Solver) (fill : FillRule)
      (contours flat region : List (List Point)) (held : List (Entry Count)) → AreInRange least greatest contours → its_options ≡ default_options
      → its_solver ≡ solver → AddsAll boolean one_subject its_options.preserve_input_collinear contours [] held
      → flat ≡ flat_overlay_of its_options fill Subject its_solver.precision held → flat ≡ region
      → IsRegionOf least greatest fill solver.precision contours region
  region_is goes_on are_held its_options solver its_solver fill contours flat region held in_range e f adds is same = record {
    held = held;
    alone = alone_held goes_on are_held default_options its_options solver its_solver fill contours held in_range e adds;
    is =
        sym same
        ∙ (is
        ∙ (ap (λ o. flat_overlay_of o fill Subject its_solver.precision held) e ∙ ap
        (λ (s : Solver). flat_overlay_of default_options fill Subject s.precision held) f));
  }

  -- ---- a region that is moved

  module _ (by : Amounts) (fill : FillRule) (precision : Precision) (contours : List (List Point)) where
    pub moved_of : (region shifted : List (List Point)) → IsRegionOf least greatest fill precision contours region
        → IsMovedTo least greatest by precision region shifted
        → AreMoved least greatest by fill precision contours shifted
    moved_of region shifted of_region moves = record { region = region; of_region = of_region; moves = moves }

    pub sized_answer : SizedIsTheNeighbourhood → AreRectilinear contours
        → (options : IntOverlayOptions) (shifted : List (List Point)) (shapes : List (List (List Point)))
        (held : List (Entry Count)) → AreMoved least greatest by fill precision contours shifted
        → HoldsAlone least greatest options.preserve_input_collinear shifted held → IsAnswered least greatest options Positive Subject precision held shapes
        → AreSized least greatest by options fill precision contours shapes
    sized_answer law straight options shifted shapes held are alone is = record {
      held = held;
      moves = moves;
      is = is;
      winds = λ none. subst (λ ss. WindWhere (once (is_clockwise options.output_direction)) (IsSized by (IsFilledBy fill contours)) (all_contours ss))
          (sym is.canonical)
          (map_of.winds (answering_of options) precision none);
      straight = λ none. subst (λ ss. AreRectilinear (all_contours ss)) (sym is.canonical) (map_of.straight (answering_of options) precision none);
    }
      where
        moves : HoldsMoved least greatest options.preserve_input_collinear by fill precision contours held
        moves = record { shifted = shifted; are = are; alone = alone }

        map_of : IsSizedMap by fill contours held
        map_of = law least greatest options.preserve_input_collinear by fill precision contours held straight moves

  -- ---- sized again

  pub in_turn_answer : MovedFillTheSized
      → (first second : Amounts) (options : IntOverlayOptions) (fill : FillRule) (precision : Precision) (contours shifted : List (List Point))
      (shapes : List (List (List Point))) → AreRectilinear contours → AreMoved least greatest first fill precision contours shifted
      → AreSized least greatest second options Positive precision shifted shapes
      → AreSizedInTurn least greatest first second options fill precision contours shapes
  in_turn_answer law first second options fill precision contours shifted shapes straight moves sized =
      let fill_just = law.moved least greatest first fill precision contours shifted straight moves in
      record {
        shifted = shifted;
        moves = moves;
        sized = sized;
        winds = λ none. wind_alike (once (is_clockwise options.output_direction)) (IsSized second (IsFilledBy Positive shifted))
            (IsSized second (IsSized first (IsFilledBy fill contours))) (all_contours shapes)
            (λ p some. (
              sized_by_alike second (IsFilledBy Positive shifted) (IsSized first (IsFilledBy fill contours)) (λ m h. (fill_just.fills m h).1) p,
              sized_by_alike second (IsSized first (IsFilledBy fill contours)) (IsFilledBy Positive shifted) (λ m h. (fill_just.fills m h).0) p,
            ))
            (sized.winds none);
      }
