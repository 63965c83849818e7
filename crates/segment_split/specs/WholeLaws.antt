-- Maps whose edges cross at whole points alone.
use Rattle.std.specs.Prelude.{◌≡◌, ℕ, List, Contains}
use Rattle.plane_base.specs.Plane.{Point, Edge, RationalPoint}
use Rattle.plane_base.specs.Counts.{Count, Counting, Entry, boolean, IsNormal}
use Rattle.plane_base.specs.Given.{given}
use Rattle.plane_base.specs.Windings.{winding, contour_winding}
use Rattle.plane_base.specs.WholeLaws.{MeetsWhole}
use Rattle.segment_split.specs.Passes.{edges_of, pass}
use Rattle.segment_split.specs.Redrawing.{redrawn}
use Rattle.segment_split.specs.declared.solver.Precision.{Precision}

-- Where two edges of the list cross properly, they do so at a whole point.
abbrev pub AllMeetWhole : List Edge → Type 0
AllMeetWhole es = (s t : Edge) → Contains es s → Contains es t → MeetsWhole s t

-- The same of one edge of the list and the others.
abbrev pub MeetsAllWhole : List Edge → Edge → Type 0
MeetsAllWhole es s = (t : Edge) → Contains es t → MeetsWhole s t

-- Where the edges of a map meet whole, so do those after a pass. Passes don't depend on the precision there, nor on their number,
-- and redrawing doesn't depend on the precision.
pub record WholeMeetingsStay {C : Type 0} (kind : Counting C) : Type 0 where
  pub after_pass :
      (precision : Precision) (es : List (Entry C)) (k : ℕ) → IsNormal kind es → AllMeetWhole (edges_of es) → AllMeetWhole (edges_of (pass kind precision es k))
  pub pass_alike :
      (precision other : Precision) (es : List (Entry C)) (k m : ℕ) → AllMeetWhole (edges_of es) → pass kind precision es k ≡ pass kind other es m
  pub redrawn_alike :
      (precision other : Precision) (es : List (Entry C)) → IsNormal kind es → AllMeetWhole (edges_of es) → redrawn kind precision es ≡ redrawn kind other es

-- There a pass and redrawing keep the winding at every rational point.
pub record WholeMeetingsKeepWindings : Type 0 where
  pub pass_winds :
      (precision : Precision) (es : List (Entry Count)) (k : ℕ) (p : RationalPoint) → IsNormal boolean es → AllMeetWhole (edges_of es)
      → winding (pass boolean precision es k) p ≡ winding es p
  pub redrawn_winds :
      (precision : Precision) (es : List (Entry Count)) (p : RationalPoint) → IsNormal boolean es → AllMeetWhole (edges_of es)
      → winding (redrawn boolean precision es) p ≡ winding es p
  pub as_contours :
      (precision : Precision) (subjects clips : List (List Point)) (p : RationalPoint) → AllMeetWhole (edges_of (given subjects clips))
      → winding (redrawn boolean precision (given subjects clips)) p ≡ record { subject = contour_winding subjects p; clip = contour_winding clips p }
