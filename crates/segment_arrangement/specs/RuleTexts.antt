-- The texts of the rules: their names, and the number in a fill rule that has one.
use Rattle.std.specs.Prelude.{ℕ, List, ◌++◌, codes}
use Rattle.std.specs.Fmt.{signed_decimal}
use Rattle.segment_arrangement.specs.Depths.{windings_of}
use Rattle.segment_arrangement.specs.declared.fill_rule.FillRule.{FillRule}
use Rattle.segment_arrangement.specs.declared.fill_rule.FillRule.TheVariants.{EvenOdd, NonZero, Positive, Negative, AtLeast}
use Rattle.segment_arrangement.specs.declared.overlay_rule.OverlayRule.{OverlayRule}
use Rattle.segment_arrangement.specs.declared.overlay_rule.OverlayRule.TheVariants.{Subject, Clip, Intersect, Union, Difference, InverseDifference, Xor}

abbrev pub fill_rule_text : FillRule → List ℕ
fill_rule_text EvenOdd = codes "EvenOdd"
fill_rule_text NonZero = codes "NonZero"
fill_rule_text Positive = codes "Positive"
fill_rule_text Negative = codes "Negative"
fill_rule_text (AtLeast depth) = codes "AtLeast(" ++ signed_decimal (windings_of depth) ++ codes ")"

abbrev pub overlay_rule_text : OverlayRule → List ℕ
overlay_rule_text Subject = codes "Subject"
overlay_rule_text Clip = codes "Clip"
overlay_rule_text Intersect = codes "Intersect"
overlay_rule_text Union = codes "Union"
overlay_rule_text Difference = codes "Difference"
overlay_rule_text InverseDifference = codes "InverseDifference"
overlay_rule_text Xor = codes "Xor"
