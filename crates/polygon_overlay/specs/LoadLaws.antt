-- Where counts can't leave their range.
use Rattle.std.specs.Prelude.{◌<◌, ◌^◌, ℤ, Bool, unsigned_abs, List, length, map, sum}
use Rattle.plane_base.specs.Plane.{Point}
use Rattle.plane_base.specs.Counts.{Count as Windings, Entry}
use Rattle.plane_base.specs.declared.fault.Fault.TheVariants.{Count}
use Rattle.segment_split.specs.declared.solver.Precision.{Precision}
use Rattle.polygon_overlay.specs.Builders.{IsHeld}
use Rattle.polygon_overlay.specs.Overlays.{MeetsWhole, IsQueryRefused}
use Rattle.polygon_overlay.specs.OverlayLaws.{HoldsContours}

-- The absolute counts of the edges sum to less than 2^31, those of the subject and those of the clip.
pub record SumInRange (es : List (Entry Windings)) : Type 0 where
  pub subject : sum (map (λ e. unsigned_abs e.count.subject) es) < 2 ^ 31
  pub clip : sum (map (λ e. unsigned_abs e.count.clip) es) < 2 ^ 31

-- Where held edges that cross do so at whole points, and their absolute counts sum so, no query is refused with `Count`, at any precision. The edges of
-- contours sum so, as long as no query has redrawn them: there are fewer than 2^31, and each counts 1 or -1.
pub record CountsNeverLeaveTheirRange : Type 0 where
  pub of_held :
      (least greatest : ℤ) (precision : Precision) (held : List (Entry Windings)) → IsHeld least greatest held → MeetsWhole held → SumInRange held
      → IsQueryRefused precision held Count → ⊥
  pub of_contours :
      (keep_all : Bool) (subjects clips : List (List Point)) (held : List (Entry Windings)) → HoldsContours keep_all subjects clips held
      → length held < 2 ^ 31 → SumInRange held
