use Rattle.segment_split.specs.Strings.{stringed}
use Rattle.polygon_overlay.proofs.Boxing.StringBoxLaws.{clips_stay_in_the_box}
use Rattle.polygon_overlay.proofs.laws.clips_stay_in_the_box.Goals as goal

pub returns : goal.returns
returns c = clips_stay_in_the_box (c.passes_rearrange.ensures.redrawn stringed)
