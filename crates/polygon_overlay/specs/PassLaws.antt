-- Contours touch, and never cross.
use Rattle.std.specs.Prelude.{◌≡◌, Bool, true, List, [], ◌∷◌, flat_map, AllPairs}
use Rattle.plane_base.specs.Plane.{Point}
use Rattle.plane_base.specs.Counts.{Count, Entry}
use Rattle.plane_base.specs.Regions.{FillRule, OverlayRule}
use Rattle.segment_arrangement.specs.SideLaws.{IsArrangement}
use Rattle.contour_walk.specs.Turning.{is_met_before}
use Rattle.contour_walk.specs.Walks.{walks}
use Rattle.contour_walk.specs.WalkLaws.{borders}

-- a contour at one of its points: where it comes from, and where it goes on to
pub record Pass : Type 0 where
  pub from : Point
  pub at : Point
  pub to : Point

-- the passes of a path that begins with two points and stands at the points to come, up to that at the first point
abbrev pub passes_from : Point → Point → Point → List Point → List Pass
passes_from first second from [] = []
passes_from first second from (v ∷ []) = record { from = from; at = v; to = first } ∷ record { from = v; at = first; to = second } ∷ []
passes_from first second from (v ∷ w ∷ rest) = record { from = from; at = v; to = w } ∷ passes_from first second v (w ∷ rest)

-- the passes of a contour, from its second point round to its first
abbrev pub passes : List Point → List Pass
passes [] = []
passes (p ∷ []) = []
passes (p ∷ r ∷ rest) = passes_from p r p (r ∷ rest)

-- Where two passes meet they don't cross: turning one way from where the first comes from, one meets where it goes before both points of the other.
abbrev pub DontCross : Pass → Pass → Type 0
DontCross one other =
    one.at ≡ other.at
    → (clockwise : Bool) × (is_met_before clockwise one.at one.from one.to other.from ≡ true) × (is_met_before clockwise one.at one.from one.to other.to ≡ true)

-- No two passes of walks along the boundary of an arrangement cross, be they of one contour or of two.
abbrev pub PassesNeverCross : Type 0
PassesNeverCross =
    (fill : FillRule) (rule : OverlayRule) (es : List (Entry Count)) (output : Bool) → IsArrangement es
    → AllPairs DontCross (flat_map (λ c. passes c.points) (walks output (borders fill rule es)))
