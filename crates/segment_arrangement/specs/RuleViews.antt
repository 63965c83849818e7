-- What contracts see of the rules.
use Rattle.plane_base.specs.Regions as region
use Rattle.segment_arrangement.specs.Depths.{windings_of}
use Rattle.segment_arrangement.specs.declared.fill_rule.FillRule.{FillRule}
use Rattle.segment_arrangement.specs.declared.fill_rule.FillRule.TheVariants.{EvenOdd, NonZero, Positive, Negative, AtLeast}
use Rattle.segment_arrangement.specs.declared.overlay_rule.OverlayRule.{OverlayRule}
use Rattle.segment_arrangement.specs.declared.overlay_rule.OverlayRule.TheVariants.{Subject, Clip, Intersect, Union, Difference, InverseDifference, Xor}

abbrev pub fill_rule_of : FillRule → region.FillRule
fill_rule_of EvenOdd = region.EvenOdd
fill_rule_of NonZero = region.NonZero
fill_rule_of Positive = region.Positive
fill_rule_of Negative = region.Negative
fill_rule_of (AtLeast depth) = region.AtLeast (windings_of depth)

abbrev pub overlay_rule_of : OverlayRule → region.OverlayRule
overlay_rule_of Subject = region.Subject
overlay_rule_of Clip = region.Clip
overlay_rule_of Intersect = region.Intersect
overlay_rule_of Union = region.Union
overlay_rule_of Difference = region.Difference
overlay_rule_of InverseDifference = region.InverseDifference
overlay_rule_of Xor = region.Xor
