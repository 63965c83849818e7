-- The first words of requests, and the words of an overlay: the one word of each value of five enums, and which words
-- spell each fill rule.
use Rattle.std.specs.Prelude.{◌≡◌, ℕ, List, ◌++◌, codes}
use Rattle.polybool.specs.Numerals.{IsDepth}
use Rattle.polybool.specs.declared.words.Name.{Name}
use Rattle.polybool.specs.declared.words.Name.TheVariants as name
use Rattle.segment_arrangement.specs.declared.overlay_rule.OverlayRule.{OverlayRule}
use Rattle.segment_arrangement.specs.declared.overlay_rule.OverlayRule.TheVariants as rule
use Rattle.segment_arrangement.specs.Depths.{windings_of}
use Rattle.segment_arrangement.specs.declared.fill_rule.FillRule.{FillRule}
use Rattle.segment_arrangement.specs.declared.fill_rule.FillRule.TheVariants as fill
use Rattle.segment_split.specs.declared.solver.Strategy.{Strategy}
use Rattle.segment_split.specs.declared.solver.Strategy.TheVariants as strategy
use Rattle.contour_walk.specs.declared.contour_direction.ContourDirection.{ContourDirection}
use Rattle.contour_walk.specs.declared.contour_direction.ContourDirection.TheVariants as direction
use Rattle.polybool.specs.declared.words.Keep.{Keep}
use Rattle.polybool.specs.declared.words.Keep.TheVariants as keep

-- the first word of each request
abbrev pub request_word : Name → List ℕ
request_word name.Subject = codes "subject"
request_word name.Clip = codes "clip"
request_word name.Overlay = codes "overlay"
request_word name.Relate = codes "relate"
request_word name.Locate = codes "locate"
request_word name.Area = codes "area"
request_word name.Reset = codes "reset"

abbrev pub rule_word : OverlayRule → List ℕ
rule_word rule.Subject = codes "subject"
rule_word rule.Clip = codes "clip"
rule_word rule.Intersect = codes "intersect"
rule_word rule.Union = codes "union"
rule_word rule.Difference = codes "difference"
rule_word rule.InverseDifference = codes "inverse"
rule_word rule.Xor = codes "xor"

-- The word spells this fill rule.
abbrev pub SpellsFill : List ℕ → FillRule → Type 0
SpellsFill word fill.EvenOdd = word ≡ codes "evenodd"
SpellsFill word fill.NonZero = word ≡ codes "nonzero"
SpellsFill word fill.Positive = word ≡ codes "positive"
SpellsFill word fill.Negative = word ≡ codes "negative"
SpellsFill word (fill.AtLeast depth) = (digits : List ℕ) × (word ≡ codes "atleast:" ++ digits) × IsDepth digits (windings_of depth)

abbrev pub strategy_word : Strategy → List ℕ
strategy_word strategy.List = codes "list"
strategy_word strategy.Tree = codes "tree"
strategy_word strategy.Frag = codes "frag"
strategy_word strategy.Auto = codes "auto"

abbrev pub direction_word : ContourDirection → List ℕ
direction_word direction.CounterClockwise = codes "ccw"
direction_word direction.Clockwise = codes "cw"

abbrev pub keep_word : Keep → List ℕ
keep_word keep.Corners = codes "corners"
keep_word keep.Points = codes "points"
