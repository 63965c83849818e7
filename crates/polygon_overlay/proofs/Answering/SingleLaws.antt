-- Overlays by one call: what a new builder with default options and solver answers.
use Rattle.std.specs.Prelude.{◌≡◌, ℤ, Bool, false, List, [], ◌++◌, flat_map, IfOk, IfErr}
use Rattle.std.specs.declared.result.Result.{Result}
use Rattle.std.specs.declared.result.Result.TheVariants.{Ok, Err}
use Rattle.std.proofs.Common.{refl, subst, inr, ap₂, ◌∙◌}
use Rattle.plane_base.specs.Plane.{Point}
use Rattle.plane_base.specs.Counts.{Count, Entry, boolean, one_subject, one_clip}
use Rattle.plane_base.specs.Given.{laid}
use Rattle.plane_base.specs.Regions as region
use Rattle.plane_base.specs.Regions.{FillRule, OverlayRule}
use Rattle.plane_base.specs.declared.fault.Fault.{Fault}
use Rattle.segment_split.specs.declared.solver.Solver.{Solver}
use Rattle.segment_arrangement.specs.Graphs.{Link, all_links}
use Rattle.segment_arrangement.specs.RuleViews.{fill_rule_of}
use Rattle.segment_arrangement.specs.declared.fill_rule.FillRule.{FillRule as FillRuleValue}
use Rattle.segment_arrangement.specs.declared.fill_rule.FillRule.TheVariants.{EvenOdd}
use Rattle.contour_walk.specs.declared.options.IntOverlayOptions.{IntOverlayOptions}
use Rattle.segment_split.specs.Holdings.{IsRefusedBy}
use Rattle.polygon_overlay.specs.Asking.{IsAnswered}
use Rattle.polygon_overlay.specs.Builders.{HoldsBoth, default_options, default_precision, default_solver}
use Rattle.polygon_overlay.specs.GroupLaws.{AnswersGroupsAlone}
use Rattle.polygon_overlay.specs.OverlayLaws.{HoldingGoesOn}
use Rattle.polygon_overlay.specs.Overlays.{redrawn_of, IsQueryRefused}
use Rattle.polygon_overlay.specs.Predicates.{within, covers}
use Rattle.polygon_overlay.specs.RelationLaws.{CoversIsWithinExchanged}
use Rattle.polygon_overlay.specs.Singles.{IsSingleOverlay, IsSingleRefused, IsRelated}

-- a new builder with the default solver is refused as one call is
pub asked_refused : {T : Type 0} (subjects clips : List (List Point)) (solver : Solver) (held : List (Entry Count)) → HoldsBoth false subjects clips held
    → (is_failed : Bool) (r : Result T Fault) → solver ≡ default_solver → is_failed ≡ false
    → IfErr r (IsRefusedBy is_failed (IsQueryRefused solver.precision held)) → IfErr r (IsSingleRefused subjects clips)
asked_refused subjects clips solver held holds is_failed (Ok s) g h why = tt
asked_refused subjects clips solver held holds is_failed (Err f) g h why =
    inr (held, holds, subst (λ t. IsQueryRefused t.precision held f) g (subst (λ b. IsRefusedBy b (IsQueryRefused solver.precision held) f) h why))

-- a new builder with the default solver and `EvenOdd` answers a predicate as one call does
pub asked_related : (subjects clips : List (List Point)) (fill : FillRuleValue) (solver : Solver) (held : List (Entry Count)) → HoldsBoth false subjects clips held
    → (entry : List Link → Bool) (r : Result Bool Fault) → fill ≡ EvenOdd → solver ≡ default_solver
    → IfOk r (λ answer. answer ≡ entry (all_links (fill_rule_of fill) (redrawn_of solver.precision held))) → IfOk r (IsRelated entry subjects clips)
asked_related subjects clips fill solver held holds entry (Err f) e g is = tt
asked_related subjects clips fill solver held holds entry (Ok answer) e g is = record {
  held = held;
  holds = holds;
  is = is ∙ ap₂ (λ f s. entry (all_links (fill_rule_of f) (redrawn_of s.precision held))) e g;
}

-- the same of the table with subject and clip exchanged
pub exchanged_related : HoldingGoesOn → CoversIsWithinExchanged → (subjects clips : List (List Point)) → (answer : Bool) → IsRelated within clips subjects answer
    → IsRelated covers subjects clips answer
exchanged_related goes_on law subjects clips answer related =
    let held = held_of subjects clips related.holds in record {
      held = held.0;
      holds = held.1;
      is = related.is
          ∙ law false subjects clips held.0 related.held (goes_on.of_both false subjects clips held.0 held.1)
          (goes_on.of_both false clips subjects related.held related.holds) region.EvenOdd default_precision;
    }
  where
    held_of : (subjects clips : List (List Point)) → HoldsBoth false clips subjects related.held → (held : List (Entry Count)) × HoldsBoth false subjects clips held
    held_of subjects clips (between, (first, are_first, is), (second, are_second, then)) = (
      [] ++ flat_map (laid boolean one_subject) second ++ flat_map (laid boolean one_clip) first,
      ([] ++ flat_map (laid boolean one_subject) second, (second, are_second, refl), (first, are_first, refl)),
    )

module _ {T : Type 0} (view : T → List (List (List Point))) (least greatest : ℤ) (fill : FillRule) (rule : OverlayRule) (subjects clips : List (List Point))
    (options : IntOverlayOptions) (solver : Solver) (held : List (Entry Count)) (holds : HoldsBoth false subjects clips held) where
  abbrev Is : IntOverlayOptions → Solver → List (List (List Point)) → Type 0
  Is o s shapes = IsAnswered least greatest o fill rule s.precision held shapes

  abbrev Alone : IntOverlayOptions → Solver → List (List (List Point)) → Type 0
  Alone o s shapes = AnswersGroupsAlone o fill rule s.precision held shapes

  pub single_overlay : (r : Result T Fault) → options ≡ default_options → solver ≡ default_solver → IfOk r (λ s. Is options solver (view s))
      → IfOk r (λ s. Alone options solver (view s)) → IfOk r (λ s. IsSingleOverlay least greatest fill rule subjects clips (view s))
  single_overlay (Err f) e g found alone = tt
  single_overlay (Ok s) e g found alone =
      let plain : Is default_options default_solver (view s) =
      subst (λ t. Is default_options t (view s)) g (subst (λ o. Is o solver (view s)) e found) in
      let apart : Alone default_options default_solver (view s) =
      subst (λ t. Alone default_options t (view s)) g (subst (λ o. Alone o solver (view s)) e alone) in
      record { held = held; holds = holds; is = plain; alone = apart }

  pub single_refused : (is_failed : Bool) (r : Result T Fault) → solver ≡ default_solver → is_failed ≡ false
      → IfErr r (IsRefusedBy is_failed (IsQueryRefused solver.precision held)) → IfErr r (IsSingleRefused subjects clips)
  single_refused is_failed r g h why = asked_refused subjects clips solver held holds is_failed r g h why
