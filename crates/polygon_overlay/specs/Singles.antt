-- Overlays by one call.
use Rattle.std.specs.Prelude.{◌≡◌, ◌⊎◌, ℤ, Bool, false, List}
use Rattle.plane_base.specs.Plane.{Point}
use Rattle.plane_base.specs.Counts.{Count, Entry}
use Rattle.plane_base.specs.Regions.{FillRule, OverlayRule, EvenOdd}
use Rattle.plane_base.specs.declared.fault.Fault.{Fault}
use Rattle.segment_split.specs.declared.solver.Precision.{Precision}
use Rattle.segment_arrangement.specs.Graphs.{Link, all_links}
use Rattle.contour_walk.specs.Answering.{answering_of}
use Rattle.polygon_overlay.specs.Builders.{HoldsBoth, IsNotMade, default_options, default_precision}
use Rattle.polygon_overlay.specs.GroupLaws.{AnswersGroupsAlone}
use Rattle.polygon_overlay.specs.Overlays.{redrawn_of, IsOverlay, IsQueryRefused}
use Rattle.polygon_overlay.specs.Predicates.{relations_of}
use Rattle.polygon_overlay.specs.RelationLaws.{only_disjoint}
use Rattle.polygon_overlay.specs.declared.relate.Relations.{Relations}

-- The shapes are an overlay of the contours, each thinned: counterclockwise, and of corners alone. Groups are answered each as if alone.
pub record IsSingleOverlay (least greatest : ℤ) (fill : FillRule) (rule : OverlayRule) (subjects clips : List (List Point))
    (shapes : List (List (List Point))) : Type 0 where
  pub held : List (Entry Count)
  pub holds : HoldsBoth false subjects clips held
  pub is : IsOverlay least greatest (answering_of default_options) fill rule (redrawn_of default_precision held) held shapes
  pub alone : AnswersGroupsAlone default_options fill rule default_precision held shapes

-- The builder of one overlay could not be made, or could not answer.
abbrev pub IsSingleRefused : List (List Point) → List (List Point) → Fault → Type 0
IsSingleRefused subjects clips fault =
    IsNotMade false subjects clips fault ⊎ ((held : List (Entry Count)) × HoldsBoth false subjects clips held × IsQueryRefused default_precision held fault)

-- The answer is that of the table of predicates for the contours, each thinned, of the first as subject and the second as clip.
pub record IsRelated (entry : List Link → Bool) (subjects clips : List (List Point)) (answer : Bool) : Type 0 where
  pub held : List (Entry Count)
  pub holds : HoldsBoth false subjects clips held
  pub is : answer ≡ entry (all_links EvenOdd (redrawn_of default_precision held))

-- All answers of the table for the contours, each thinned.
pub record AreRelated (fill : FillRule) (precision : Precision) (relations : Relations) (subjects clips : List (List Point)) : Type 0 where
  pub held : List (Entry Count)
  pub holds : HoldsBoth false subjects clips held
  pub are : relations ≡ relations_of (all_links fill (redrawn_of precision held))

-- They are disjoint and related in no other way, whatever the fill rule and the precision.
abbrev pub AreDisjoint : List (List Point) → List (List Point) → Type 0
AreDisjoint subjects clips = (fill : FillRule) (precision : Precision) → AreRelated fill precision only_disjoint subjects clips
