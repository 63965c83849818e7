-- What queries make of a holding.
use Rattle.std.specs.Prelude.{◌≡◌, ℤ, false, OnOk, OnErr, IfErr}
use Rattle.std.specs.declared.result.Result.{Result}
use Rattle.std.specs.declared.result.Result.TheVariants.{Ok, Err}
use Rattle.std.proofs.Common.{sym, ap, ◌∙◌, subst}
use Rattle.plane_base.specs.Counts.{Count}
use Rattle.plane_base.specs.declared.fault.Fault.{Fault}
use Rattle.segment_split.specs.declared.solver.Precision.{Precision}
use Rattle.polygon_overlay.specs.Asking.{IsAsked, LeavesRedrawn}
use Rattle.polygon_overlay.specs.Builders.{IsHeld}
use Rattle.segment_split.specs.Holdings.{Holding, failed}
use Rattle.polygon_overlay.specs.Overlays.{redrawn_of, IsQueryRefused}
use Rattle.segment_split.proofs.Facts.Adding.Laws.{answered}
use Rattle.segment_split.proofs.Facts.Adding.Holdings.{refused_if_ready}
use Rattle.polygon_overlay.proofs.Holding.HeldLaws.{nothing_held}

-- ---- queries

module _ {T : Type 0} (precision : Precision) (old : Holding Count) (ready : old.has_failed ≡ false) where
  pub is_asked : (r : Result T Fault) → IfErr r (IsQueryRefused precision old.edges) → IsAsked precision old r
  is_asked r why = record {
    ready = answered r ready;
    refused = refused_if_ready old.has_failed (IsQueryRefused precision old.edges) r ready why;
  }

  pub leaves_redrawn : (new : Holding Count) (r : Result T Fault) → OnOk r (new ≡ record { edges = redrawn_of precision old.edges; has_failed = old.has_failed })
      → OnErr r (new ≡ failed) → LeavesRedrawn precision old new r
  leaves_redrawn new (Ok t) is none = record { redrawn = ap (λ h. h.edges) is; failed = ap (λ h. h.has_failed) is ∙ ready; none = tt }
  leaves_redrawn new (Err e) is none = record { redrawn = tt; failed = ap (λ h. h.has_failed) none; none = λ _. ap (λ h. h.edges) none }

-- what a step leaves as it was is what the step before it left
pub goes_through : {T : Type 0} (r : Result T Fault) (new mid was : Holding Count) → OnOk r (new ≡ mid) → mid ≡ was → OnOk r (new ≡ was)
goes_through (Ok t) new mid was stays is = stays ∙ is
goes_through (Err e) new mid was stays is = tt

-- what a query leaves is in range, counted and balanced, if the redrawn map is
pub held_after_asking : {T : Type 0} (least greatest : ℤ) (precision : Precision) (old new : Holding Count) (r : Result T Fault)
    → IsHeld least greatest (redrawn_of precision old.edges) → OnOk r (new ≡ record { edges = redrawn_of precision old.edges; has_failed = old.has_failed })
    → OnErr r (new ≡ failed) → IsHeld least greatest new.edges
held_after_asking least greatest precision old new (Ok t) held is none = subst (IsHeld least greatest) (sym (ap (λ h. h.edges) is)) held
held_after_asking least greatest precision old new (Err e) held is none = subst (IsHeld least greatest) (sym (ap (λ h. h.edges) none)) (nothing_held least greatest)
