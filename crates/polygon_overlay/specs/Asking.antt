-- What queries tell and leave.
use Rattle.std.specs.Prelude.{◌≡◌, ℤ, true, false, List, [], OnOk, OnErr, IfErr, MatchResult}
use Rattle.std.specs.declared.result.Result.{Result}
use Rattle.plane_base.specs.Plane.{Point}
use Rattle.plane_base.specs.Counts.{Count, Entry}
use Rattle.plane_base.specs.Regions.{FillRule, OverlayRule}
use Rattle.plane_base.specs.declared.fault.Fault.{Fault}
use Rattle.segment_split.specs.declared.solver.Precision.{Precision}
use Rattle.contour_walk.specs.Answering.{answering_of}
use Rattle.contour_walk.specs.declared.options.IntOverlayOptions.{IntOverlayOptions}
use Rattle.segment_split.specs.Holdings.{IsRefusedBy, Holding}
use Rattle.polygon_overlay.specs.Overlays.{redrawn_of, IsOverlay, IsQueryRefused}

-- Only a builder that has not failed answers. One that has refuses with `Failed`, another for a reason of what it holds.
pub record IsAsked {T : Type 0} (precision : Precision) (old : Holding Count) (result : Result T Fault) : Type 0 where
  pub ready : OnOk result (old.has_failed ≡ false)
  pub refused : IfErr result (IsRefusedBy old.has_failed (IsQueryRefused precision old.edges))

-- After an answer the redrawn edges are held. After a refusal the builder has failed, and holds nothing.
pub record LeavesRedrawn {T : Type 0} (precision : Precision) (old new : Holding Count) (result : Result T Fault) : Type 0 where
  pub redrawn : OnOk result (new.edges ≡ redrawn_of precision old.edges)
  pub failed : MatchResult result (λ shown. new.has_failed ≡ false) (λ fault. new.has_failed ≡ true)
  pub none : OnErr result (old.has_failed ≡ false → new.edges ≡ [])

-- The shapes that are answered for what is held: an overlay of it, by the options.
abbrev pub IsAnswered : ℤ → ℤ → IntOverlayOptions → FillRule → OverlayRule → Precision → List (Entry Count) → List (List (List Point)) → Type 0
IsAnswered least greatest options fill rule precision held shapes =
    IsOverlay least greatest (answering_of options) fill rule (redrawn_of precision held) held shapes
