-- What the halves of a string map keep to.
use Rattle.std.specs.Prelude.{◌≡◌, Bool, not, List, flat_map, Contains, Some}
use Rattle.plane_base.specs.Plane.{Point, RationalPoint, IsRational}
use Rattle.plane_base.specs.Counts.{Entry}
use Rattle.plane_base.specs.Windings.{winding, contour_winding}
use Rattle.plane_base.specs.Regions.{FillRule, Subject, region}
use Rattle.segment_split.specs.Strings.{StringCount}
use Rattle.segment_arrangement.specs.SideLaws.{IsArrangement}
use Rattle.segment_arrangement.specs.Strings.{subject_of}
use Rattle.contour_walk.specs.Walks.{Border, next_point}
use Rattle.contour_walk.specs.WalkLaws.{step_along, PassAll, turns_of}
use Rattle.contour_walk.specs.Loops.{long_loops}
use Rattle.contour_walk.specs.BindingLaws.{all_contours}
use Rattle.polygon_strings.specs.Slices.{halves, IsSlice}

-- On the half b follows the half k: it leaves the point to which b comes, and is met there first on turning from b through its filled side.
pub record IsFollowedBy (output : Bool) (halves : List Border) (b k : Border) : Type 0 where
  pub here : Contains halves k
  pub leaves : (step_along output k).a ≡ (step_along output b).b
  pub met : next_point (not output) halves (step_along output b).b (step_along output b).a ≡ Some (step_along output k).b

-- A half follows on each half of a string map.
abbrev pub HalvesGoOn : Type 0
HalvesGoOn =
    (fill : FillRule) (es : List (Entry StringCount)) (output : Bool) (b : Border) → IsArrangement (subject_of es) → Contains (halves fill es) b
    → (k : Border) × IsFollowedBy output (halves fill es) b k

-- Contours wind once round each point of the subject, in the output direction, and round no other point. A point on edges is taken for one just
-- right of it and below them.
abbrev pub WindRoundSubject : Bool → FillRule → List (Entry StringCount) → List (List Point) → Type 0
WindRoundSubject output fill es contours =
    (p : RationalPoint) → IsRational p → contour_winding contours p ≡ turns_of output (region fill Subject (winding (subject_of es) p))

-- Walks that pass each half once wind so, and so do their loops, where there is no least area.
pub record SliceWalksWind : Type 0 where
  pub walks :
      (fill : FillRule) (es : List (Entry StringCount)) (output : Bool) (walks : List (List Point)) → IsArrangement (subject_of es) →
      PassAll output (halves fill es) walks → WindRoundSubject output fill es walks
  pub loops :
      (fill : FillRule) (es : List (Entry StringCount)) (output : Bool) (walks : List (List Point)) → IsArrangement (subject_of es) →
      PassAll output (halves fill es) walks → WindRoundSubject output fill es (flat_map (long_loops 0) walks)

-- So do the pieces of a slice without a least area.
abbrev pub PiecesWind : Type 0
PiecesWind =
    (fill : FillRule) (es : List (Entry StringCount)) (output : Bool) (shapes : List (List (List Point))) → IsArrangement (subject_of es)
    → IsSlice output 0 fill es shapes → WindRoundSubject output fill es (all_contours shapes)
