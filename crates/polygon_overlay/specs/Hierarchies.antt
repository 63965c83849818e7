-- Hierarchies that are answered.
use Rattle.std.specs.Prelude.{◌≡◌, ℤ, List}
use Rattle.plane_base.specs.Plane.{Point}
use Rattle.plane_base.specs.Counts.{Count, Entry}
use Rattle.plane_base.specs.Regions.{FillRule, OverlayRule}
use Rattle.segment_split.specs.declared.solver.Precision.{Precision}
use Rattle.contour_walk.specs.Answering.{answering_of}
use Rattle.contour_walk.specs.Hierarchy.{answer_links}
use Rattle.contour_walk.specs.WalkLaws.{borders}
use Rattle.contour_walk.specs.declared.hierarchy.ChildLink.{ChildLink}
use Rattle.contour_walk.specs.declared.options.IntOverlayOptions.{IntOverlayOptions}
use Rattle.polygon_overlay.specs.Asking.{IsAnswered}
use Rattle.polygon_overlay.specs.Overlays.{redrawn_of}

-- The shapes that are answered for what is held, and which of them lie in holes of others.
pub record IsHierarchy (least greatest : ℤ) (options : IntOverlayOptions) (fill : FillRule) (rule : OverlayRule) (precision : Precision)
    (held : List (Entry Count)) (shapes : List (List (List Point))) (links : List ChildLink) : Type 0 where
  pub answered : IsAnswered least greatest options fill rule precision held shapes
  -- The links are those of the canonical answer with all its points.
  pub linked : links ≡ answer_links (answering_of options) (borders fill rule (redrawn_of precision held))

-- A hierarchy has the shapes of an overlay by the same rules with the same options and precision, for the same edges.
abbrev pub HierarchiesHaveTheShapes : Type 0
HierarchiesHaveTheShapes =
    (least greatest : ℤ) (options : IntOverlayOptions) (fill : FillRule) (rule : OverlayRule) (precision : Precision) (held : List (Entry Count))
    (shapes laid : List (List (List Point))) (links : List ChildLink) →
    IsAnswered least greatest options fill rule precision held shapes → IsHierarchy least greatest options fill rule precision held laid links
    → laid ≡ shapes
