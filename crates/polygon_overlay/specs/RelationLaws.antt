-- What relations keep to.
use Rattle.std.specs.Prelude.{◌≡◌, ℤ, Bool, true, false, not, ◌&&◌, nat_lt, List, length, All}
use Rattle.plane_base.specs.Plane.{Point}
use Rattle.plane_base.specs.Counts.{Count, Entry}
use Rattle.plane_base.specs.Regions.{FillRule, OverlayRule, Subject, Intersect, Difference}
use Rattle.segment_split.specs.Groups.{Bounds, LiesWithin, AreApart}
use Rattle.segment_split.specs.declared.solver.Precision.{Precision}
use Rattle.segment_arrangement.specs.Graphs.{Link, all_links}
use Rattle.contour_walk.specs.Answering.{Answering}
use Rattle.contour_walk.specs.BindingLaws.{all_contours}
use Rattle.polygon_overlay.specs.Builders.{IsHeld}
use Rattle.polygon_overlay.specs.Overlays.{redrawn_of, MeetsWhole}
use Rattle.polygon_overlay.specs.OverlayLaws.{HoldsContours, overlay_of}
use Rattle.polygon_overlay.specs.Predicates.{interiors_intersect, within, covers, relations_of}
use Rattle.polygon_overlay.specs.declared.relate.Relations.{Relations}

-- With subject and clip exchanged, the one is within the other just where the other covers it.
abbrev pub CoversIsWithinExchanged : Type 0
CoversIsWithinExchanged =
    (keep_all : Bool) (subjects clips : List (List Point)) (held held' : List (Entry Count)) →
    HoldsContours keep_all subjects clips held → HoldsContours keep_all clips subjects held' → (fill : FillRule) (precision : Precision)
    → within (all_links fill (redrawn_of precision held')) ≡ covers (all_links fill (redrawn_of precision held))

-- ---- boxes that share no point

-- disjoint, and related in no other way
abbrev pub only_disjoint : Relations
only_disjoint = record {
  intersects = false;
  interiors_intersect = false;
  touches = false;
  point_intersects = false;
  within = false;
  disjoint = true;
  covers = false;
}

-- All points of the first contours lie in one box and all of the second in another, and the two boxes share no point.
pub record LieApart (ones others : List (List Point)) : Type 0 where
  pub one : Bounds
  pub other : Bounds
  pub ones_within : All (All (LiesWithin one)) ones
  pub others_within : All (All (LiesWithin other)) others
  pub apart : AreApart one other

-- Where the points of the subject and those of the clip lie so, they are disjoint, whatever the fill rule and the precision.
abbrev pub ApartIsDisjoint : Type 0
ApartIsDisjoint =
    (least greatest : ℤ) (keep_all : Bool) (subjects clips : List (List Point)) (held : List (Entry Count)) →
    HoldsContours keep_all subjects clips held → IsHeld least greatest held → LieApart subjects clips → (fill : FillRule) (precision : Precision)
    → relations_of (all_links fill (redrawn_of precision held)) ≡ only_disjoint

-- ---- relations and overlays

-- some shape has a contour
abbrev pub has_contour : List (List (List Point)) → Bool
has_contour shapes = nat_lt 0 (length (all_contours shapes))

-- The interiors of subject and clip meet just where their intersection has a contour. The subject is within the clip just where it has a
-- contour and the difference has none.
pub record AgreesWithOverlays (links : List Link) (overlay : OverlayRule → List (List (List Point))) : Type 0 where
  pub of_interiors : interiors_intersect links ≡ has_contour (overlay Intersect)
  pub of_within : within links ≡ has_contour (overlay Subject) && not (has_contour (overlay Difference))

-- So it is for one builder. And it is for two builders that hold the same contours, each thinned or with all points, at any two precisions,
-- where each holds edges that cross, if they do, at whole points.
pub record PredicatesAgreeWithOverlays : Type 0 where
  pub of_one :
      (least greatest : ℤ) (o : Answering) (fill : FillRule) (precision : Precision) (held : List (Entry Count)) → IsHeld least greatest held → o.least ≡ 0
      → AgreesWithOverlays (all_links fill (redrawn_of precision held)) (λ rule. overlay_of o fill rule precision held)
  pub of_two :
      (least greatest other_least other_greatest : ℤ) (keep_all other_keeps_all : Bool) (subjects clips : List (List Point)) (held other : List (Entry Count)) →
      HoldsContours keep_all subjects clips held → HoldsContours other_keeps_all subjects clips other → IsHeld least greatest held →
      IsHeld other_least other_greatest other → MeetsWhole held → MeetsWhole other →
      (o : Answering) (fill : FillRule) (precision other_precision : Precision) → o.least ≡ 0
      → AgreesWithOverlays (all_links fill (redrawn_of precision held)) (λ rule. overlay_of o fill rule other_precision other)
