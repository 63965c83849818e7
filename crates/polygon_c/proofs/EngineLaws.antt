-- What a builder answers that was made for one call, and why it doesn't.
use Rattle.std.specs.Prelude.{◌≡◌, ℤ, Bool, false, List, IfErr}
use Rattle.std.specs.declared.result.Result.{Result}
use Rattle.std.specs.declared.result.Result.TheVariants.{Ok, Err}
use Rattle.std.proofs.Common.{sym, subst, inl, inr, ap₂, ◌∙◌}
use Rattle.plane_base.specs.Plane.{Point}
use Rattle.plane_base.specs.Counts.{Count, Entry}
use Rattle.plane_base.specs.declared.fault.Fault.{Fault}
use Rattle.segment_split.specs.Holdings.{IsRefusedBy}
use Rattle.segment_split.specs.declared.solver.Precision.{Precision}
use Rattle.segment_split.specs.declared.solver.Solver.{Solver}
use Rattle.segment_arrangement.specs.Graphs.{all_links}
use Rattle.segment_arrangement.specs.RuleViews.{fill_rule_of, overlay_rule_of}
use Rattle.segment_arrangement.specs.declared.fill_rule.FillRule.{FillRule}
use Rattle.contour_walk.specs.declared.hierarchy.ChildLink.{ChildLink}
use Rattle.contour_walk.specs.declared.options.IntOverlayOptions.{IntOverlayOptions}
use Rattle.polygon_overlay.specs.Asking.{IsAnswered}
use Rattle.polygon_overlay.specs.Builders.{HoldsBoth, HoldsUntil}
use Rattle.polygon_overlay.specs.GroupLaws.{AnswersGroupsAlone}
use Rattle.polygon_overlay.specs.Hierarchies.{IsHierarchy}
use Rattle.polygon_overlay.specs.Overlays.{redrawn_of, IsQueryRefused}
use Rattle.polygon_overlay.specs.Predicates.{relations_of}
use Rattle.polygon_overlay.specs.declared.relate.Relations.{Relations}
use Rattle.polygon_c.specs.Answers.{IsOverlayOf, AreRelationsOf, IsNotAsked}
use Rattle.polygon_c.specs.Nesting.{IsHierarchyOf}
use Rattle.polygon_c.specs.declared.query.Request.{Request}

-- Such a builder has not failed, and is refused for what it holds.
pub not_asked : {T : Type 0} (keep_all : Bool) (precision : Precision) (subjects clips : List (List Point)) (solver : Solver) (held : List (Entry Count))
    → HoldsBoth keep_all subjects clips held → (is_failed : Bool) (r : Result T Fault) → solver.precision ≡ precision → is_failed ≡ false
    → IfErr r (IsRefusedBy is_failed (IsQueryRefused solver.precision held)) → IfErr r (IsNotAsked keep_all precision subjects clips)
not_asked keep_all precision subjects clips solver held holds is_failed (Ok s) g h why = tt
not_asked keep_all precision subjects clips solver held holds is_failed (Err f) g h why =
    inr (held, holds, subst (λ p. IsQueryRefused p held f) g (subst (λ b. IsRefusedBy b (IsQueryRefused solver.precision held) f) h why))

-- A builder that couldn't take contours in could not be made of them.
pub not_taken : (keep_all : Bool) (precision : Precision) (subjects clips : List (List Point)) (held : List (Entry Count)) (f : Fault)
    → HoldsUntil keep_all subjects clips held f → IsNotAsked keep_all precision subjects clips f
not_taken keep_all precision subjects clips held f (inl h) = inl (inr (inl (held, h)))
not_taken keep_all precision subjects clips held f (inr (between, all, h)) = inl (inr (inr (between, held, all, h)))

module _ (least greatest : ℤ) (r : Request) (subjects clips : List (List Point)) (options : IntOverlayOptions) (solver : Solver) (held : List (Entry Count))
    (holds : HoldsBoth r.options.preserve_input_collinear subjects clips held) where
  -- Its shapes are the overlay that is asked for.
  pub overlaid : (shapes : List (List (List Point))) → options ≡ r.options → solver ≡ r.solver
      → IsAnswered least greatest options (fill_rule_of r.fill_rule) (overlay_rule_of r.overlay_rule) solver.precision held shapes
      → AnswersGroupsAlone options (fill_rule_of r.fill_rule) (overlay_rule_of r.overlay_rule) solver.precision held shapes
      → IsOverlayOf least greatest r subjects clips shapes
  overlaid shapes e g answered alone = record {
    held = held;
    holds = holds;
    answered = subst (λ s. IsAnswered least greatest r.options (fill_rule_of r.fill_rule) (overlay_rule_of r.overlay_rule) s.precision held shapes) g
        (subst (λ o. IsAnswered least greatest o (fill_rule_of r.fill_rule) (overlay_rule_of r.overlay_rule) solver.precision held shapes) e answered);
    alone = subst (λ s. AnswersGroupsAlone r.options (fill_rule_of r.fill_rule) (overlay_rule_of r.overlay_rule) s.precision held shapes) g
        (subst (λ o. AnswersGroupsAlone o (fill_rule_of r.fill_rule) (overlay_rule_of r.overlay_rule) solver.precision held shapes) e alone);
  }

  -- So are its shapes and links, if others are these.
  pub nested : (shapes others : List (List (List Point))) (links : List ChildLink) → options ≡ r.options → solver ≡ r.solver → others ≡ shapes
      → IsHierarchy least greatest options (fill_rule_of r.fill_rule) (overlay_rule_of r.overlay_rule) solver.precision held shapes links
      → IsHierarchyOf least greatest r subjects clips others links
  nested shapes others links e g same is = record {
    held = held;
    holds = holds;
    is = subst (λ those. IsHierarchy least greatest r.options (fill_rule_of r.fill_rule) (overlay_rule_of r.overlay_rule) r.solver.precision held those links) (sym same)
        (subst (λ s. IsHierarchy least greatest r.options (fill_rule_of r.fill_rule) (overlay_rule_of r.overlay_rule) s.precision held shapes links) g
        (subst (λ o. IsHierarchy least greatest o (fill_rule_of r.fill_rule) (overlay_rule_of r.overlay_rule) solver.precision held shapes links) e is));
  }

-- The relations that it tells are those that are asked for.
pub related : (r : Request) (subjects clips : List (List Point)) (fill : FillRule) (solver : Solver) (held : List (Entry Count)) → HoldsBoth false subjects clips held
    → (relations : Relations) → fill ≡ r.fill_rule → solver ≡ r.solver
    → relations ≡ relations_of (all_links (fill_rule_of fill) (redrawn_of solver.precision held)) → AreRelationsOf r subjects clips relations
related r subjects clips fill solver held holds relations e g is = record {
  held = held;
  holds = holds;
  are = is ∙ ap₂ (λ f s. relations_of (all_links (fill_rule_of f) (redrawn_of s.precision held))) e g;
}
