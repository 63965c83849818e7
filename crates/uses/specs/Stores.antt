-- Answers that are kept.
use Rattle.std.specs.Prelude.{◌≡◌, ℤ, true, List}
use Rattle.polygon_overlay.specs.Answering.{answering_of}
use Rattle.polygon_overlay.specs.Builders.{IsHeld, default_options}
use Rattle.polygon_overlay.specs.Counts.{Count, Entry}
use Rattle.polygon_overlay.specs.IntOverlayOptions.{IntOverlayOptions}
use Rattle.polygon_overlay.specs.OverlayLaws.{overlay_of}
use Rattle.polygon_overlay.specs.Plane.{Point}
use Rattle.polygon_overlay.specs.Precision.{Precision}
use Rattle.polygon_overlay.specs.Regions.{FillRule, OverlayRule}

-- all points are kept, given and answered
abbrev pub all_points : IntOverlayOptions
all_points = record default_options { preserve_input_collinear = true; preserve_output_collinear = true }

-- Some overlay answered these shapes, with all their points: of whatever it held, by whatever rules.
pub record AreAnswered (shapes : List (List (List Point))) : Type 0 where
  pub least : ℤ
  pub greatest : ℤ
  pub fill : FillRule
  pub rule : OverlayRule
  pub precision : Precision
  pub held : List (Entry Count)
  pub is_held : IsHeld least greatest held
  pub are : shapes ≡ overlay_of (answering_of all_points) fill rule precision held
