-- Clips by one call.
use Rattle.std.specs.Prelude.{◌⊎◌, ℤ, List, All}
use Rattle.plane_base.specs.Plane.{Point, IsWithin}
use Rattle.plane_base.specs.Counts.{Entry}
use Rattle.plane_base.specs.Regions.{FillRule}
use Rattle.plane_base.specs.declared.fault.Fault.{Fault}
use Rattle.segment_split.specs.Strings.{StringCount}
use Rattle.segment_arrangement.specs.declared.clip_rule.ClipRule.{ClipRule}
use Rattle.polygon_strings.specs.Asking.{IsQueryRefused}
use Rattle.polygon_strings.specs.Builders.{HoldsBoth, IsNotMade, default_precision, string_map}
use Rattle.polygon_strings.specs.Clips.{IsClip}
use Rattle.polygon_strings.specs.KeptSteps.{kept_steps}

-- The paths are a clip of open strings by a shape, whose contours are thinned. All their points are in range.
pub record IsClipOf (least greatest : ℤ) (fill : FillRule) (clip : ClipRule) (shape strings paths : List (List Point)) : Type 0 where
  pub held : List (Entry StringCount)
  pub holds : HoldsBoth shape strings held
  pub is : IsClip (kept_steps fill clip (string_map default_precision held)) paths
  pub in_range : All (All (IsWithin least greatest)) paths

-- The builder of the clip could not be made, or could not answer.
abbrev pub IsClipRefused : List (List Point) → List (List Point) → Fault → Type 0
IsClipRefused shape strings fault =
    IsNotMade shape strings fault ⊎ ((held : List (Entry StringCount)) × HoldsBoth shape strings held × IsQueryRefused default_precision held fault)
